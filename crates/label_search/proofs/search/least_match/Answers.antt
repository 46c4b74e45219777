use Rattle.std.proofs.Common.{◌≡◌, ◌∙◌, ◌-◌, sym, ap, arith, length, true, false}
use Rattle.label_search.proofs.Prelude.{find, range_with_len, length-map, occurs_at, letters_of}
use Rattle.label_search.proofs.SearchLemmas.{find-next}
use Rattle.label_search.proofs.search.least_match.Goals as goal

pub loop-place-init : goal.loop-place-init
loop-place-init c =
    let sites = c.args.memory.now in
    let all : length sites - 0 ≡ length (letters_of sites) =
    omega (arith, length-map sites (λ site. site.letter)) in
    ap (λ n. find (occurs_at (letters_of sites) c.args.what.now) (range_with_len 0 n)) all

pub returns-then-stands_at : goal.returns-then-stands_at
returns-then-stands_at c =
    sym (find-next (occurs_at (letters_of c.args.memory.now) c.args.what.now) c.loop-place.place
    (length c.args.memory.now) true c.loop-place-test.true
    (sym c.if-stands_at.true ∙ c.stands_at.ensures)) ∙ c.loop-place.invariant

pub loop-place-preserved : goal.loop-place-preserved
loop-place-preserved c =
    sym (find-next (occurs_at (letters_of c.args.memory.now) c.args.what.now) c.loop-place.place
    (length c.args.memory.now) false c.loop-place-test.true
    (sym c.if-stands_at.false ∙ c.stands_at.ensures)) ∙ c.loop-place.invariant
