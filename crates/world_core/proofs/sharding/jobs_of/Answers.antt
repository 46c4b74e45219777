use Rattle.std.proofs.Common.{◌≡◌, ◌∙◌, ℕ, ◌+◌, ◌-◌, ◌≤◌, List, [], ◌∷◌, ◌++◌, ap, arith, drop, length, map, refl, sum, sym, take}
use Rattle.world_core.proofs.Prelude.{length-take-le, length_push, first_cell, Job, load_of, seat_from, share_before}
use Rattle.world_core.proofs.CutLemmas.{cut-more}
use Rattle.world_core.proofs.ShareLemmas.{shares-of_none, started-more}
use Rattle.world_core.proofs.sharding.jobs_of.Goals as goal

pub loop-shard-preserved : goal.loop-shard-preserved
loop-shard-preserved c =
    let before = c.loop-shard.invariant in
    let rest = c.loop-shard.rest in
    let loads = c.loop-shard.loads.items in
    let start = c.start_of-start.result.cell in
    let parts = c.in_ok-front.ensures in
    let back : Job = record {
      first = start;
      cells = drop start rest.cells;
      slices = drop start rest.slices;
      seat = seat_from rest.seat;
    } in
    let front = c.in_ok-front.front in
    let same : c.deref-in-loop-shard.result.now ≡ loads = c.deref-in-loop-shard.ensures.value in
    let below : start ≤ length loads =
    omega (arith, c.start_of-start.ensures.within, ap length same) in
    let within : start ≤ length rest.cells = omega (arith, below, before.loads, before.cut.long) in
    let share : c.from.result
    ≡ share_before c.args.shards c.args.whole.slices c.loop-shard.shard =
    c.from.ensures ∙ ap (λ (both : ℕ × ℕ). both.0) c.bounds-share.ensures
    ∙ ap (λ n. first_cell n c.args.shards c.loop-shard.shard) c.max.ensures
    ∙ shares-of_none _ c.args.shards c.loop-shard.shard
    (omega (arith, before.some))
    ∙ ap (λ n. first_cell n c.args.shards c.loop-shard.shard) before.all in
    let pushed : c.push_reserved.new.self.items ≡ c.loop-shard.jobs.items ++ back ∷ [] =
    c.push_reserved.ensures.items
    ∙ ap (λ (one : Job). c.loop-shard.jobs.items ++ one ∷ []) parts.1 in
    record {
      cut = cut-more c.args.whole.seat c.args.whole.cells c.args.whole.slices
          c.loop-shard.jobs.items rest.cells rest.slices rest.seat before.cut back
          c.push_reserved.new.self.items front.cells front.slices front.seat within
          (ap (λ (one : Job). one.cells) parts.0) (ap (λ (one : Job). one.slices) parts.0)
          refl refl refl (ap (λ (one : Job). one.seat) parts.0) pushed;
      first = ap (λ (one : Job). one.first) parts.0;
      loads = omega (
        arith,
        ap length c.truncate.ensures.items,
        length-take-le start loads below,
        ap (λ (one : Job). length one.slices) parts.0,
        length-take-le start rest.slices (omega (arith, within, before.cut.long)),
      );
      left = c.start_of-start.ensures.before
          ∙ ap (λ (all : List ℕ). sum (take start all)) same
          ∙ ap sum (sym c.truncate.ensures.items);
      all = before.all;
      started = started-more c.args.shards c.args.whole.slices c.loop-shard.jobs.items
          c.loop-shard.shard loads before.started back
          c.push_reserved.new.self.items (c.loop-shard.shard - 1) c.truncate.new.self.items
          (omega (arith, c.loop-shard-test.true)) below
          (omega (
            arith,
            c.start_of-start.ensures.before,
            ap (λ (all : List ℕ). sum (take start all)) same,
            c.start_of-start.ensures.from,
            share,
          ))
          (λ more. omega (
            arith,
            c.start_of-start.ensures.to (omega (arith, more, ap length same)),
            ap (λ (all : List ℕ). sum (take (start + 1) all)) same,
            share,
          ))
          (c.shards_part_the_cells.ensures.rising (sum (map load_of c.args.whole.slices))
          c.args.shards c.loop-shard.shard c.requires.shards.0)
          c.truncate.ensures.items pushed;
      few = omega (
        arith,
        ap (λ (one : Job). length one.cells) parts.0,
        length-take-le start rest.cells within,
        within,
        before.few,
      );
      some = omega (
        arith,
        ap length pushed,
        length_push c.loop-shard.jobs.items back,
        before.some,
        c.loop-shard-test.true,
      );
      room = c.push_reserved.ensures.capacity ∙ before.room;
    }
