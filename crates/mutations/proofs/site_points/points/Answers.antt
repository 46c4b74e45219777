use Rattle.std.proofs.Common.{refl, sym, ap₂, ◌∙◌, ◌+◌, List, [], ◌++◌, drop, append-nil, arith}
use Rattle.mutations.proofs.Prelude.{IsGenome, Letter, points_from}
use Rattle.std.proofs.lemmas.List.{at_drop_all}
use Rattle.mutations.proofs.ChangeLemmas.{drop-here}
use Rattle.mutations.proofs.PointLemmas.{points-make}
use Rattle.mutations.proofs.site_points.points.Goals as goal

pub loop-at-preserved : goal.loop-at-preserved
loop-at-preserved c =
    let at = c.loop-at.at in
    let clean = c.args.clean.now in
    let text = c.args.text.now in
    c.in_ok-note_point.ensures (drop (at + 1) clean) (drop (at + 1) text)
    ∙ ap₂ (λ (was is : List Letter). c.loop-at.points ++ points_from at was is)
    (sym (drop-here clean at (omega arith))) (sym (drop-here text at c.loop-at-test.true))
    ∙ c.loop-at.invariant

pub returns-clause-points : goal.returns-clause-points
returns-clause-points c =
    let at = c.loop-at.at in
    let points = c.loop-at.points in
    sym (append-nil points)
    ∙ sym (at_drop_all (λ (rest : List Letter). points ++ points_from at rest (drop at c.args.text.now))
    c.args.clean.now at (omega arith))
    ∙ c.loop-at.invariant

pub returns-clause-made : goal.returns-clause-made
returns-clause-made c =
    let genome : IsGenome c.args.clean.now =
    record { least = omega arith; greatest = omega arith } in
    rw (returns-clause-points c) (points-make c.one_index.ensures.letter 0 [] c.args.clean.now
    c.args.text.now refl c.requires.lengths genome)
