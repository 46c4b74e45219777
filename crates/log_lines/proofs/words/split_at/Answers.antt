use Rattle.std.proofs.Common.{◌≡◌, ◌∙◌, ◌∷◌, ◌-◌, ◌+◌, List, ℕ, take, drop, length, ap, sym, arith, length-drop}
use Rattle.std.specs.Prelude.{◌==◌}
use Rattle.log_lines.proofs.Prelude.{slice_split, eqb-true, take_all}
use Rattle.log_lines.proofs.WordLemmas.{free_of, split_here, split_end}
use Rattle.log_lines.proofs.words.split_at.Goals as goal

pub returns-in-Some-clause-pieces : goal.returns-in-Some-clause-pieces
returns-in-Some-clause-pieces c =
    let rest = c.args.rest.now in
    let part = c.args.part in
    let at = c.in-Some.at in
    let found = c.in-Some.ensures in
    let behind = drop (at + 1) rest in
    let all : take (length rest - (at + 1)) behind ≡ behind =
    take_all (length rest - (at + 1)) behind (omega (arith, length-drop (at + 1) rest)) in
    split_here part rest at found.0.high (free_of part rest at found.0.before)
    (eqb-true _ part found.1)
    ∙ ap (λ (l : List ℕ). take at rest ∷ slice_split (λ b. b == part) l) (sym all)

pub returns-in-None-clause-pieces : goal.returns-in-None-clause-pieces
returns-in-None-clause-pieces c =
    split_end c.args.part c.args.rest.now
    (free_of c.args.part c.args.rest.now (length c.args.rest.now) c.in-None.ensures)
