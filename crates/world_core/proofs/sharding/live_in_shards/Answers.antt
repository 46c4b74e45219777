use Rattle.std.proofs.Common.{◌≡◌, ◌∙◌, ◌<◌, ◌≤◌, ◌^◌, List, All, ap, arith, fold, length, map, subst, sym}
use Rattle.world_core.proofs.Prelude.{All-same, All-weaker, IsYoung, round_numbers, standing_in, IsNumbered, birth_of, Delivered, Finished, genotypes_of, Job, Letter, TakesIn, PartCells, ShareSeat}
use Rattle.world_core.proofs.GenotypeLemmas.{genotypes-different, len-taken, next_len}
use Rattle.world_core.proofs.CutLemmas.{jobs-can-run}
use Rattle.world_core.proofs.JoinLemmas.{EndsAs, each-finished, ends-as, numbers-finished, seats-finished, seats-shared, takes-in}
use Rattle.world_core.proofs.sharding.live_in_shards.Given as given
use Rattle.world_core.proofs.sharding.live_in_shards.Goals.{After-owns_all-2, In_ok-cells}
use Rattle.world_core.proofs.sharding.live_in_shards.Goals as goal

-- the jobs have all cells of this one, and its seat
abbrev AreOf : List Job → Job → Type 0
AreOf jobs whole =
    PartCells jobs whole.cells whole.slices × ShareSeat whole.seat jobs × (length jobs ≤ 64)

-- the shards as one
ends : (g : given.Over) (c : In_ok-cells g)
    → EndsAs (round_numbers c.args.round.now) c.genotypes.inside.seat c.args.cells.items
    c.args.slices.items c.in_ok-cells.field-0
ends g c =
    let parts = subst (AreOf c.in_ok-jobs.jobs.items) c.job_from-whole.ensures
    c.in_ok-jobs.ensures.parts in
    ends-as c.parts_live_as_one.ensures (round_numbers c.args.round.now) c.genotypes.inside.seat
    c.args.cells.items c.args.slices.items c.in_ok-jobs.jobs.items c.in_ok-shards.shards.items
    c.in_ok-cells.field-0 parts.0 parts.1 (omega (arith, parts.2, c.genotypes.invariant.1))
    c.in_ok-shards.ensures.finished c.in_ok-cells.ensures

-- the bank has taken in their newborns
takes : (g : given.Over) (c : After-owns_all-2 g)
    → EndsAs (round_numbers c.args.round.now) c.genotypes.inside.seat c.args.cells.items
    c.args.slices.items c.in_ok-cells.field-0
    → TakesIn (genotypes_of c.genotypes.inside.seat.seen)
    (genotypes_of c.in_ok-cells.field-0.seat.seen) c.in_ok-cells.field-0.births
takes g c ends =
    takes-in (record {
      stay = c.calls_number_genotypes.ensures.stay;
      calls = c.genotypes_are_what_was_interned.ensures.calls;
    }) (round_numbers c.args.round.now)
    c.genotypes.inside.seat c.args.cells.items c.args.slices.items c.in_ok-cells.field-0
    (c.owns_all.ensures c.genotypes.invariant.1)
    (c.owns_all-2.ensures (ends.share ∙ c.genotypes.invariant.1)) ends

pub run_all_beside-requires-clause-jobs : goal.run_all_beside-requires-clause-jobs
run_all_beside-requires-clause-jobs g c l b k d within =
    let parts = (subst (AreOf c.in_ok-jobs.jobs.items) c.job_from-whole.ensures
    c.in_ok-jobs.ensures.parts).0 in
    jobs-can-run 0 c.in_ok-jobs.jobs.items parts.beside
    (omega (arith, c.requires.cells, ap length parts.cells_are))
    (subst (All (λ steps. steps < 2 ^ 27)) (sym parts.slices_are) c.requires.few)
    (subst (All IsYoung) (sym parts.cells_are) c.requires.young) k d within

pub join_all-requires-clause-seats : goal.join_all-requires-clause-seats
join_all-requires-clause-seats g c =
    let round = round_numbers c.args.round.now in
    let jobs = c.in_ok-jobs.jobs.items in
    let all = c.in_ok-shards.shards.items in
    let seat = c.genotypes.inside.seat in
    subst (λ bank. All (λ (one : Finished). one.seat.bank ≡ bank) all) c.genotypes.invariant.0
    (seats-finished round seat jobs all (seats-shared seat jobs
    (subst (AreOf jobs) c.job_from-whole.ensures c.in_ok-jobs.ensures.parts).1)
    (each-finished round jobs all c.in_ok-shards.ensures.finished))

pub join_all-requires-clause-numbers : goal.join_all-requires-clause-numbers
join_all-requires-clause-numbers g c =
    let round = round_numbers c.args.round.now in
    let jobs = c.in_ok-jobs.jobs.items in
    let all = c.in_ok-shards.shards.items in
    numbers-finished round jobs all (each-finished round jobs all c.in_ok-shards.ensures.finished)

pub len_after-len-requires : goal.len_after-len-requires
len_after-len-requires g c =
    let births = c.in_ok-cells.field-0.births in
    All-same (λ (d : Delivered). d.handle.number < 2 ^ 63) c.as_slice.result.now births
    c.as_slice.ensures
    (All-weaker (IsNumbered c.in_ok-cells.field-0.seat.seen)
    (λ (d : Delivered). d.handle.number < 2 ^ 63) (λ d numbered. numbered.small) births
    (ends g (goal.at.len_after-len-requires g c).In_ok-cells).numbers)

pub invariant_of-genotypes : goal.invariant_of-genotypes
invariant_of-genotypes g c =
    let at = goal.at.invariant_of-genotypes g c in
    let whole = ends g at.In_ok-cells in
    let births = c.in_ok-cells.field-0.births in (
      whole.bank ∙ c.genotypes.invariant.0,
      whole.share ∙ c.genotypes.invariant.1,
      c.len_after-len.ensures
          ∙ ap (fold next_len c.genotypes.inside.len) c.as_slice.ensures
          ∙ ap (λ n. fold next_len n births) c.genotypes.invariant.2
          ∙ len-taken (genotypes_of c.genotypes.inside.seat.seen)
          (genotypes_of c.in_ok-cells.field-0.seat.seen) births
          (takes g at.After-owns_all-2 whole)
          (genotypes-different c.numbers_agree.ensures c.in_ok-cells.field-0.seat.seen),
    )

pub returns-clause-cells : goal.returns-clause-cells
returns-clause-cells g c =
    c.into_vec.ensures ∙ (ends g (goal.at.returns-clause-cells g c).In_ok-cells).left

pub returns-clause-standings : goal.returns-clause-standings
returns-clause-standings g c =
    c.into_vec-2.ensures ∙ (ends g (goal.at.returns-clause-standings g c).In_ok-cells).standings
    ∙ ap (map standing_in) (sym c.into_vec.ensures)

pub returns-clause-births : goal.returns-clause-births
returns-clause-births g c =
    ap (map birth_of) c.into_vec-3.ensures
    ∙ (ends g (goal.at.returns-clause-births g c).In_ok-cells).births

pub returns-clause-dead : goal.returns-clause-dead
returns-clause-dead g c =
    c.into_vec-4.ensures ∙ (ends g (goal.at.returns-clause-dead g c).In_ok-cells).dead

pub returns-clause-bank : goal.returns-clause-bank
returns-clause-bank g c =
    let at = goal.at.returns-clause-bank g c in
    subst (λ (births : List Delivered). TakesIn c.args.genotypes
    (genotypes_of c.in_ok-cells.field-0.seat.seen) births) (sym c.into_vec-3.ensures)
    (subst (λ (old : List (List Letter)). TakesIn old (genotypes_of c.in_ok-cells.field-0.seat.seen)
    c.in_ok-cells.field-0.births) c.genotypes.view_is
    (takes g at.After-owns_all-2 (ends g at.In_ok-cells)))

pub returns-clause-different : goal.returns-clause-different
returns-clause-different g c =
    genotypes-different c.numbers_agree.ensures c.in_ok-cells.field-0.seat.seen
