use Rattle.std.proofs.Common.{◌≡◌, ◌∙◌, ◌++◌, [], ◌∷◌, ℕ, ap, arith, length, map, sum, sym, take}
use Rattle.world_core.proofs.Prelude.{map_more, take-length, load_of}
use Rattle.world_core.proofs.LoadLemmas.{sum_loads}
use Rattle.world_core.proofs.loads.loads_of.Goals as goal

pub returns-clause-total : goal.returns-clause-total
returns-clause-total c =
    let slices = c.args.slices.now in
    let place = c.loop-steps.steps-index in
    let end : place ≡ length slices =
    omega (arith, c.loop-steps-test.false, c.loop-steps.auto.steps-index-end) in
    let whole : c.loop-steps.loads.items ≡ map load_of slices =
    c.loop-steps.invariant.loads ∙ ap (λ (n : ℕ). map load_of (take n slices)) end
    ∙ ap (map load_of) (take-length slices) in
    omega (arith, ap sum whole, sum_loads slices, c.requires.total, c.requires.cells)

pub loop-steps-preserved : goal.loop-steps-preserved
loop-steps-preserved c =
    let before = c.loop-steps.invariant in
    record {
      loads = c.push_reserved.ensures.items ∙ (λ i. before.loads i ++ c.load.ensures i ∷ [])
          ∙ sym (map_more load_of c.args.slices.now c.loop-steps.steps-index 0
          c.loop-steps-test.true);
      count = omega (arith, c.push_reserved.ensures.len, before.count);
      room = c.push_reserved.ensures.capacity ∙ before.room;
    }
