use Rattle.std.proofs.Common.{◌≡◌, arith, drop}
use Rattle.label_search.proofs.Prelude.{common_steps, drop-map, letters_of}
use Rattle.label_search.proofs.search.stands_at.Goals as goal

pub returns-then-same_letter : goal.returns-then-same_letter
returns-then-same_letter c =
    let sites = c.args.memory.now in
    let place = c.args.place in
    let rest : drop place (letters_of sites) ≡ letters_of (drop place sites) =
    drop-map (λ site. site.letter) place sites in
    rw rest (grind (arith, common_steps))
