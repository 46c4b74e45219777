-- Jobs that part the cells, and what comes of them as one.
use Rattle.std.proofs.Common.{◌≡◌, ◌∙◌, refl, sym, ap, ℕ, suc, ◌+◌, ◌≤◌, List, [], ◌∷◌, ◌++◌, append_assoc, length, map, Option, arith, inl, inr}
use Rattle.std.specs.Prelude.{◌↔◌}
use Rattle.world_core.proofs.Prelude.{All, Contains, flat_map, sum_by, IsPermutation, common_steps, map-append, All-cons, All-nil, Contains-append_cases, Contains-append_left, Contains-append_right, filter_map-append, IsPermutation-refl, IsPermutation-sym, IsPrefix, RoundNumbers, births_from, deaths_from, left_in, part_from, shard_lives_of, standing_in, AreFinished, IsFinished, IsNumbered, birth_of, call_for, genome_in, part_of, Delivered, Finished, Job, HasEachOnce, calls_under, genomes_of, genotypes_of, SeatValue, own_calls_of, Entry, Letter, OrganismState, OrganismLife, TakesIn, IsJoined, LieSideBySide, PartCells, ShareSeat, seat_from, IsPrefix-trans}

-- what the crate of shards says of parts that lie side by side, in its own words
abbrev pub PartsLaws : Type 0
PartsLaws = record {
  -- the lives of cells side by side are those of the first ones, then those of the others
  lives : (round : RoundNumbers) (first : ℕ) (cells others : List (Option OrganismState))
      (slices more : List ℕ) → length slices ≡ length cells
      → shard_lives_of round (part_from first (cells ++ others) (slices ++ more))
      ≡ shard_lives_of round (part_from first cells slices)
      ++ shard_lives_of round (part_from (first + length cells) others more);
  -- so are the newborns of lives side by side
  births : (first : ℕ) (lives more : List OrganismLife)
      → births_from first (lives ++ more) ≡ births_from first lives
      ++ births_from (first + length lives) more;
  -- so are the cells of those that died in them
  deaths : (first : ℕ) (lives more : List OrganismLife)
      → deaths_from first (lives ++ more) ≡ deaths_from first lives
      ++ deaths_from (first + length lives) more;
  -- there are as many lives as cells
  count : (round : RoundNumbers) (first : ℕ) (cells : List (Option OrganismState))
      (slices : List ℕ) → length (shard_lives_of round (part_from first cells slices))
      ≡ length cells;
}

-- the cells of some jobs
abbrev pub cells_in : List Job → List (Option OrganismState)
cells_in jobs = flat_map (λ job. job.cells) jobs

-- the steps of their cells
abbrev pub slices_in : List Job → List ℕ
slices_in jobs = flat_map (λ job. job.slices) jobs

-- a finished shard stands beside each job
abbrev pub AllPairwise : RoundNumbers → List Job → List Finished → Type 0
AllPairwise round [] [] = Unit {0}
AllPairwise round [] (one ∷ all) = ⊥
AllPairwise round (job ∷ jobs) [] = ⊥
AllPairwise round (job ∷ jobs) (one ∷ all) = IsFinished round job one × AllPairwise round jobs all

-- it does where each at its place is finished
pub each-finished : (round : RoundNumbers) (jobs : List Job) (all : List Finished)
    → AreFinished round jobs all → AllPairwise round jobs all
each-finished round [] [] are = tt
each-finished round (job ∷ jobs) (one ∷ all) are = (
  are.each 0 job one (omega arith),
  each-finished round jobs all
      (record {
        count = omega (arith, are.count);
        each = λ place job end within. are.each (suc place) job end (omega (arith, within));
      }),
)
each-finished round _ _ are = absurd (omega (arith, are.count))

-- a seat without numbers has no calls
no-calls : (seen : List Entry) → calls_under [] seen ≡ []
no-calls [] = refl
no-calls (one ∷ seen) = no-calls seen

-- the genomes of calls that interned newborns
calls-genomes : (calls : List Entry) (births : List Delivered)
    → map (λ call. call.call) calls ≡ map call_for births → genomes_of calls ≡ map genome_in births
calls-genomes [] [] same = refl
calls-genomes (call ∷ calls) (birth ∷ births) same =
    let here : call.call ≡ call_for birth = cc in
    rw (here, calls-genomes calls births (cc)) refl
calls-genomes _ _ same = absurd cc

-- the own calls of shards
abbrev pub calls_in : List Finished → List Entry
calls_in all = flat_map (λ one. own_calls_of one.seat) all

module _ (laws : PartsLaws) (round : RoundNumbers) where
  -- the lives of some jobs, one job after another
  abbrev pub lives_in : List Job → List OrganismLife
  lives_in jobs = flat_map (λ job. shard_lives_of round (part_of job)) jobs

  -- they are the lives of all cells
  jobs-live : (first : ℕ) (jobs : List Job) → LieSideBySide first jobs
      → shard_lives_of round (part_from first (cells_in jobs) (slices_in jobs)) ≡ lives_in jobs
  unfolding shard_lives_of
  jobs-live first [] beside = refl
  jobs-live first (job ∷ jobs) beside =
      rw (laws.lives _ _ _ _ _ _ beside.1, jobs-live (first + length job.cells) jobs beside.2)
      (rw (← beside.0) refl)

  -- what the shards leave in the cells is what those lives leave
  cells-joined : (jobs : List Job) (all : List Finished) → AllPairwise round jobs all
      → flat_map (λ one. one.cells) all ≡ map left_in (lives_in jobs)
  cells-joined [] [] are = refl
  cells-joined (job ∷ jobs) (one ∷ all) are =
      rw (are.0.cells, cells-joined jobs all are.1, map-append) refl
  cells-joined _ _ are = absurd are

  -- what is told of the cells is what is counted of them
  standings-joined : (jobs : List Job) (all : List Finished) → AllPairwise round jobs all
      → flat_map (λ one. one.standings) all
      ≡ map standing_in (flat_map (λ one. one.cells) all)
  standings-joined [] [] are = refl
  standings-joined (job ∷ jobs) (one ∷ all) are =
      rw (are.0.standings, standings-joined jobs all are.1, map-append) refl
  standings-joined _ _ are = absurd are

  -- the cell behind a job's cells, by its lives
  cell-behind : (first : ℕ) (job : Job) → first + length job.cells
      ≡ first + length (shard_lives_of round (part_of job))
  cell-behind first job = omega (arith, laws.count round job.first job.cells job.slices)

  -- so are the newborns
  births-joined : (first : ℕ) (jobs : List Job) (all : List Finished) → LieSideBySide first jobs
      → AllPairwise round jobs all
      → map birth_of (flat_map (λ one. one.births) all) ≡ births_from first (lives_in jobs)
  births-joined first [] [] beside are = refl
  births-joined first (job ∷ jobs) (one ∷ all) beside are =
      let others = births-joined (first + length job.cells) jobs all beside.2 are.1 in
      rw (laws.births, map-append, are.0.births, others, cell-behind first job, ← beside.0) refl
  births-joined first _ _ beside are = absurd are

  -- and the dead
  dead-joined : (first : ℕ) (jobs : List Job) (all : List Finished) → LieSideBySide first jobs
      → AllPairwise round jobs all
      → flat_map (λ one. one.dead) all ≡ deaths_from first (lives_in jobs)
  dead-joined first [] [] beside are = refl
  dead-joined first (job ∷ jobs) (one ∷ all) beside are =
      let others = dead-joined (first + length job.cells) jobs all beside.2 are.1 in
      rw (laws.deaths, are.0.dead, others, cell-behind first job, ← beside.0) refl
  dead-joined first _ _ beside are = absurd are

  module _ (seat : SeatValue) where
    -- the shards behind the first give their shares back
    shares-joined : (jobs : List Job) (all : List Finished)
        → All (λ job. job.seat ≡ seat_from seat) jobs → AllPairwise round jobs all
        → sum_by (λ one. one.seat.share) all ≡ length jobs
    shares-joined [] [] new are = refl
    shares-joined (job ∷ jobs) (one ∷ all) new are =
        let others = shares-joined jobs all (λ k d w. new (suc k) d (omega arith)) are.1 in
        grind (arith, common_steps, are.0.seat.share, new 0 job (omega arith), others)
    shares-joined _ _ new are = absurd are

    -- and their calls are those that interned their newborns
    genomes-joined : (jobs : List Job) (all : List Finished)
        → All (λ job. job.seat ≡ seat_from seat) jobs → AllPairwise round jobs all
        → genomes_of (calls_in all) ≡ map genome_in (flat_map (λ one. one.births) all)
    genomes-joined [] [] new are = refl
    genomes-joined (job ∷ jobs) (one ∷ all) new are =
        let interned = are.0.seat in
        let others = genomes-joined jobs all (λ k d w. new (suc k) d (omega arith)) are.1 in
        rw (filter_map-append, interned.own, ap own_calls_of (new 0 job (omega arith)), no-calls)
        (rw (calls-genomes interned.calls one.births interned.interned, others, map-append) refl)
    genomes-joined _ _ new are = absurd are

-- what the shards of some cells come to, as one
pub record EndsAs (round : RoundNumbers) (seat : SeatValue) (cells : List (Option OrganismState))
    (slices : List ℕ) (whole : Finished) : Type 0 where
  pub left : whole.cells ≡ map left_in (shard_lives_of round (part_from 0 cells slices))
  pub standings : whole.standings ≡ map standing_in whole.cells
  pub births : map birth_of whole.births
      ≡ births_from 0 (shard_lives_of round (part_from 0 cells slices))
  pub dead : whole.dead ≡ deaths_from 0 (shard_lives_of round (part_from 0 cells slices))
  pub bank : whole.seat.bank ≡ seat.bank
  pub share : whole.seat.share ≡ seat.share
  pub seen : IsPrefix seat.seen whole.seat.seen
  pub calls : List Entry
  pub own : IsPermutation calls (own_calls_of whole.seat)
  pub genomes : genomes_of calls ≡ genomes_of (own_calls_of seat) ++ map genome_in whole.births
  pub numbers : All (IsNumbered whole.seat.seen) whole.births

-- so it is where they are joined in their order
pub ends-as : PartsLaws → (round : RoundNumbers) (seat : SeatValue)
    (cells : List (Option OrganismState)) (slices : List ℕ) (jobs : List Job) (all : List Finished)
    (whole : Finished) → PartCells jobs cells slices → ShareSeat seat jobs
    → length jobs ≤ seat.share → AreFinished round jobs all
    → ((first : Finished) (others : List Finished) → all ≡ first ∷ others
    → IsJoined first others whole) → EndsAs round seat cells slices whole
ends-as laws round seat cells slices [] all whole parts shares few finished joined = absurd shares
ends-as laws round seat cells slices (job ∷ jobs) [] whole parts shares few finished joined =
    absurd (omega (arith, finished.count))
ends-as laws round seat cells slices (job ∷ jobs) (first ∷ others) whole parts shares few finished
    joined =
    let are = each-finished round (job ∷ jobs) (first ∷ others) finished in
    let is = joined first others refl in
    let whole_lives : shard_lives_of round (part_from 0 cells slices)
    ≡ lives_in laws round (job ∷ jobs) =
    (λ i. shard_lives_of round (part_from 0 (sym parts.cells_are i) (sym parts.slices_are i)))
    ∙ jobs-live laws round 0 (job ∷ jobs) parts.beside in
    let interned = are.0.seat in
    let behind = genomes-joined laws round seat jobs others shares.1 are.1 in
    let kept : own_calls_of job.seat ≡ own_calls_of seat = ap own_calls_of shares.0 in
    record {
      left = is.cells ∙ cells-joined laws round (job ∷ jobs) (first ∷ others) are
          ∙ ap (map left_in) (sym whole_lives);
      standings = rw (is.standings, is.cells)
          (standings-joined laws round (job ∷ jobs) (first ∷ others) are);
      births = rw (is.births, whole_lives)
          (births-joined laws round 0 (job ∷ jobs) (first ∷ others) parts.beside are);
      dead = is.dead ∙ dead-joined laws round 0 (job ∷ jobs) (first ∷ others) parts.beside are
          ∙ ap (deaths_from 0) (sym whole_lives);
      bank = is.bank ∙ interned.bank ∙ ap (λ (s : SeatValue). s.bank) shares.0;
      share = omega (
        arith,
        is.share,
        interned.share,
        ap (λ (s : SeatValue). s.share) shares.0,
        shares-joined laws round seat jobs others shares.1 are.1,
        few,
      );
      seen = IsPrefix-trans seat.seen first.seat.seen whole.seat.seen
          (rw shares.0 at interned.seen) is.seen;
      calls = own_calls_of first.seat ++ calls_in others;
      own = is.own;
      genomes = rw (filter_map-append, interned.own, filter_map-append, kept, behind, is.births)
          (rw (calls-genomes interned.calls first.births interned.interned, map-append, append_assoc)
          refl);
      numbers = is.numbers;
    }

-- the seats of finished shards
pub seats-finished : (round : RoundNumbers) (seat : SeatValue) (jobs : List Job)
    (all : List Finished) → All (λ (job : Job). job.seat.bank ≡ seat.bank) jobs
    → AllPairwise round jobs all → All (λ (one : Finished). one.seat.bank ≡ seat.bank) all
seats-finished round seat [] [] banks are = All-nil _
seats-finished round seat (job ∷ jobs) (one ∷ all) banks are =
    All-cons (λ (one : Finished). one.seat.bank ≡ seat.bank) one all
    (are.0.seat.bank ∙ banks 0 job (omega arith))
    (seats-finished round seat jobs all (λ k d w. banks (suc k) d (omega arith)) are.1)
seats-finished round seat _ _ banks are = absurd are

-- the numbers of their newborns
pub numbers-finished : (round : RoundNumbers) (jobs : List Job) (all : List Finished)
    → AllPairwise round jobs all
    → All (λ (one : Finished). All (IsNumbered one.seat.seen) one.births) all
numbers-finished round [] [] are = All-nil _
numbers-finished round (job ∷ jobs) (one ∷ all) are =
    All-cons (λ (one : Finished). All (IsNumbered one.seat.seen) one.births) one all
    are.0.seat.numbers (numbers-finished round jobs all are.1)
numbers-finished round _ _ are = absurd are

-- the seats of jobs that share one
pub seats-shared : (seat : SeatValue) (jobs : List Job) → ShareSeat seat jobs
    → All (λ (job : Job). job.seat.bank ≡ seat.bank) jobs
seats-shared seat [] shares = absurd shares
seats-shared seat (job ∷ jobs) shares =
    All-cons (λ (job : Job). job.seat.bank ≡ seat.bank) job jobs
    (ap (λ (s : SeatValue). s.bank) shares.0)
    (λ k d within. ap (λ (s : SeatValue). s.bank) (shares.1 k d within))

-- lists with the same members may stand for each other in front of others
pub each-through : (genotypes first second born : List (List Letter))
    → ((genome : List Letter) → Contains first genome ↔ Contains second genome)
    → HasEachOnce genotypes (first ++ born) → HasEachOnce genotypes (second ++ born)
each-through genotypes first second born same each = record {
  members = λ genome. (
    λ has. elim (Contains-append_cases first born genome ((each.members genome).0 has)) [
      | inl here ↦ Contains-append_left second born genome ((same genome).0 here)
      | inr there ↦ Contains-append_right second born genome there
    ],
    λ has. (each.members genome).1 (elim (Contains-append_cases second born genome has) [
      | inl here ↦ Contains-append_left first born genome ((same genome).1 here)
      | inr there ↦ Contains-append_right first born genome there
    ]),
  );
  once = each.once;
}

-- what the bank's crate says
pub record BankLaws : Type 0 where
  pub stay : (early history : List Entry) → IsPrefix early history
      → IsPrefix (genotypes_of early) (genotypes_of history)
  pub calls : (history calls : List Entry) → IsPermutation history calls
      → HasEachOnce (genotypes_of history) (genomes_of calls)

-- the bank has taken in the genomes of the newborns
pub takes-in : BankLaws → (round : RoundNumbers) (seat : SeatValue)
    (cells : List (Option OrganismState)) (slices : List ℕ) (whole : Finished)
    → own_calls_of seat ≡ seat.seen → own_calls_of whole.seat ≡ whole.seat.seen
    → EndsAs round seat cells slices whole
    → TakesIn (genotypes_of seat.seen) (genotypes_of whole.seat.seen) whole.births
takes-in laws round seat cells slices whole owns all ends = record {
  stays = laws.stay seat.seen whole.seat.seen ends.seen;
  each =
      let history : HasEachOnce (genotypes_of whole.seat.seen) (genomes_of ends.calls) =
      laws.calls whole.seat.seen ends.calls
      (rw all at (IsPermutation-sym ends.calls (own_calls_of whole.seat) ends.own)) in
      let before : HasEachOnce (genotypes_of seat.seen) (genomes_of seat.seen) =
      laws.calls seat.seen seat.seen (IsPermutation-refl seat.seen) in
      each-through (genotypes_of whole.seat.seen) (genomes_of seat.seen) (genotypes_of seat.seen)
      (map genome_in whole.births)
      (λ genome. ((before.members genome).1, (before.members genome).0))
      (rw (ends.genomes, owns) at history);
  numbers = λ k d within. (ends.numbers k d within).place;
}
