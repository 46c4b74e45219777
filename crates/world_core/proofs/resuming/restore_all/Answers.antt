use Rattle.std.proofs.Common.{◌≡◌, ◌∙◌, ◌<◌, ◌∷◌, All, Some, List, Option, ap, length, map, rules, subst, sym}
use Rattle.std.specs.Prelude.{fold}
use Rattle.world_core.proofs.Prelude.{into_iter_items, length-set, All-head, All-tail, head_values, Resident, with_placed, MayStandThere, placed_in, Occupant}
use Rattle.world_core.proofs.ResumeLemmas.{past_kept}
use Rattle.world_core.proofs.resuming.restore_all.Given as given
use Rattle.world_core.proofs.resuming.restore_all.Goals.{In-Some}
use Rattle.world_core.proofs.resuming.restore_all.Goals as goal

-- the resident of a turn and those after it
rest : (g : given.Over) (c : In-Some g) → into_iter_items c.loop-resident.resident-iterator
    ≡ c.in-Some.resident ∷ into_iter_items c.next.new.self
rest g c = search rules

-- each of them may stand in its cell
each : (g : given.Over) (c : In-Some g) → All (MayStandThere (head_values c.args.head.now))
    (map (placed_in (head_values c.args.head.now))
    (c.in-Some.resident ∷ into_iter_items c.next.new.self))
each g c = subst (λ (items : List Resident). All (MayStandThere (head_values c.args.head.now))
    (map (placed_in (head_values c.args.head.now)) items)) (rest g c)
    c.loop-resident.invariant.each

-- so may the first
here : (g : given.Over) (c : In-Some g) → MayStandThere (head_values c.args.head.now)
    (placed_in (head_values c.args.head.now) c.in-Some.resident)
here g c =
    let head = head_values c.args.head.now in
    All-head (MayStandThere head) (placed_in head c.in-Some.resident)
    (map (placed_in head) (into_iter_items c.next.new.self)) (each g c)

pub restore-requires-clause-cell : goal.restore-requires-clause-cell
restore-requires-clause-cell g c =
    subst (λ n. c.in-Some.resident.cell < n)
    (sym (c.loop-resident.invariant.size ∙ c.requires.size))
    (here g (goal.at.restore-requires-clause-cell g c).In-Some).cell

pub restore-requires-clause-sound : goal.restore-requires-clause-sound
restore-requires-clause-sound g c =
    (here g (goal.at.restore-requires-clause-sound g c).In-Some).occupant.sound

pub restore-requires-clause-age : goal.restore-requires-clause-age
restore-requires-clause-age g c =
    (here g (goal.at.restore-requires-clause-age g c).In-Some).occupant.age

pub loop-resident-preserved : goal.loop-resident-preserved
loop-resident-preserved g c =
    let at = (goal.at.loop-resident-preserved g c).In-Some in
    let head = head_values c.args.head.now in
    let next = c.in-Some.resident in
    let others = into_iter_items c.next.new.self in
    let before = c.loop-resident.scene.cells in
    let restored = c.in_ok-restore.ensures.cells in
    let placed = (placed_in head next).occupant in
    record {
      done = ap (λ (cells : List (Option Occupant)).
          fold with_placed cells (map (placed_in head) others)) restored
          ∙ ap (λ (items : List Resident). fold with_placed before (map (placed_in head) items))
          (sym (rest g at))
          ∙ c.loop-resident.invariant.done;
      each = All-tail (MayStandThere head) (placed_in head next) (map (placed_in head) others)
          (each g at);
      size = ap length restored ∙ length-set before next.cell (Some placed)
          ∙ c.loop-resident.invariant.size;
      past = past_kept c.loop-resident.invariant.past c.in_ok-restore.ensures.past;
    }
