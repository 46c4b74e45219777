use Rattle.std.proofs.Common.{◌≡◌, ◌∙◌, ap, refl, sym, subst, ℕ, ◌+◌, ◌<◌, List, None, [], length, map, get_or, arith}
use Rattle.cell_shards.proofs.Prelude.{get_or_default, IsYoung, round_numbers, shard_life_of, HasInterned, birth_of, part_of, Left}
use Rattle.cell_shards.proofs.InterningLemmas.{HasInterned-none}
use Rattle.cell_shards.proofs.LivesLemmas.{HaveLived-more, HaveLived-next, IsFinished-lived}
use Rattle.cell_shards.proofs.lives.live.Goals as goal

pub loop-place-init : goal.loop-place-init
loop-place-init g c =
    let none = c.in_ok-left.ensures in
    record {
      long = refl;
      lives = record {
        cells_are = c.into_vec-cells.ensures;
        standings_are = ap (λ (left : Left). left.standings) none;
        births_are = ap (λ (left : Left). map birth_of left.births) none;
        dead_are = ap (λ (left : Left). left.dead) none;
      };
      seat = subst (λ (left : Left). HasInterned c.args.job.seat left.seat left.births) (sym none)
          (HasInterned-none c.args.job.seat [] refl);
    }

pub index_mut-slot-requires : goal.index_mut-slot-requires
index_mut-slot-requires g c =
    omega (arith, c.loop-place.invariant.long, c.len-place-end.ensures)

pub live_at-requires-clause-young : goal.live_at-requires-clause-young
live_at-requires-clause-young g c =
    let at = c.index_mut-slot in
    let whole = c.into_vec-cells in
    let within : c.loop-place.place < length c.args.job.cells =
    omega (arith, c.len-place-end.ensures, whole.result.ok.0, ap length whole.ensures) in
    subst IsYoung (sym at.ensures.value)
    (HaveLived-next (round_numbers c.args.round.now) (part_of c.args.job) c.loop-place.place
    c.loop-place.cells.items c.loop-place.left.standings (map birth_of c.loop-place.left.births)
    c.loop-place.left.dead at.result.now c.loop-place.invariant.lives within c.requires.job.young)

pub live_at-requires-clause-seat : goal.live_at-requires-clause-seat
live_at-requires-clause-seat g c = c.loop-place.invariant.seat.bank ∙ c.requires.seat

pub loop-place-preserved : goal.loop-place-preserved
loop-place-preserved g c =
    let so_far = c.loop-place.invariant in
    let place = c.loop-place.place in
    let at = c.index_mut-slot in
    let whole = c.into_vec-cells in
    let each = c.into_vec-slices in
    let within : place < length c.args.job.cells =
    omega (arith, c.len-place-end.ensures, whole.result.ok.0, ap length whole.ensures) in
    let inside : place < length c.loop-place.cells.items =
    omega (arith, so_far.long, c.len-place-end.ensures, c.loop-place.cells.ok.0) in
    let told : place < length each.result.items =
    omega (arith, within, ap length each.ensures, c.requires.job.each) in
    let old = at.ensures.value
    ∙ get_or_default c.loop-place.cells.items place at.result.now None inside in
    let steps : c.index.result.now ≡ get_or c.args.job.slices place 0 =
    c.index.ensures ∙ get_or_default each.result.items place c.index.result.now 0 told
    ∙ ap (λ (slices : List ℕ). get_or slices place 0) each.ensures in
    let life = λ (steps : ℕ). shard_life_of (round_numbers c.args.round.now)
    (c.args.job.first + place) steps at.result.now in
    let one = c.in_ok-live_at.ensures in
    record {
      long = so_far.long;
      lives = HaveLived-more (life c.index.result.now) so_far.lives within old
          (ap life (sym steps)) one.left one.standings one.births.births one.dead;
      seat = one.births.seat c.args.job.seat so_far.seat;
    }

pub returns : goal.returns
returns g c =
    let whole = c.into_vec-cells in
    IsFinished-lived (round_numbers c.args.round.now) c.args.job c.loop-place.place
    (omega (arith, c.len-place-end.ensures, whole.result.ok.0, ap length whole.ensures))
    c.loop-place.invariant.lives c.loop-place.invariant.seat refl c.from_vec.ensures refl
