-- Where shards start.
use Rattle.std.proofs.Common.{◌≡◌, ◌∙◌, sym, ap, ℕ, zero, suc, ◌+◌, ◌<◌, ◌≤◌, List, [], ◌∷◌, ◌++◌, length, map, max, reverse, sum, take, arith, ◌⊎◌, inl, inr}
use Rattle.world_core.proofs.Prelude.{length-take-le, take-take, first_cell, Job, FollowShares, load_before, load_of, share_before}
use Rattle.std.proofs.Math.Nat.{div-eq_of_lt, eq-or-lt_of_le, max-eq_left}
use Rattle.world_core.proofs.CutLemmas.{jobs-push}

-- where there is no load, a load of 1 has the same shares
pub shares-of_none : (all workers shard : ℕ) → shard < workers
    → first_cell (max all 1) workers shard ≡ first_cell all workers shard
shares-of_none zero workers shard below =
    div-eq_of_lt (omega (arith, below)) ∙ sym (div-eq_of_lt (omega (arith, below)))
shares-of_none (suc all) workers shard below =
    ap (λ n. first_cell n workers shard) (max-eq_left (omega arith))

-- the jobs so far, the last one first, start at their shares, and so does what is left behind it
pub record HaveStarted (workers : ℕ) (slices : List ℕ) (jobs : List Job) (shard : ℕ)
    (loads : List ℕ) : Type 0 where
  pub behind : FollowShares workers slices (shard + 1) (reverse jobs)
  pub left : loads ≡ take (length loads) (map load_of slices)
  pub to : length loads < length slices
      → share_before workers slices (shard + 1) < load_before slices (length loads + 1)

module _ (workers : ℕ) (slices : List ℕ) (jobs : List Job) (shard : ℕ) (loads : List ℕ)
    (started : HaveStarted workers slices jobs shard loads) (job : Job) where
  -- one job more
  pub started-more : (next : List Job) (before : ℕ) (fewer : List ℕ) → shard ≡ before + 1
      → job.first ≤ length loads
      → sum (take job.first loads) ≤ share_before workers slices shard
      → (job.first < length loads
      → share_before workers slices shard < sum (take (job.first + 1) loads))
      → share_before workers slices shard ≤ share_before workers slices (shard + 1)
      → fewer ≡ take job.first loads → next ≡ jobs ++ job ∷ []
      → HaveStarted workers slices next before fewer
  started-more next before fewer shard_is within from to rising fewer_is next_is =
      let all = map load_of slices in
      let share = share_before workers slices in
      let size : length fewer ≡ job.first =
      ap length fewer_is ∙ length-take-le job.first loads within in
      let shorter : (n : ℕ) → n ≤ length loads → take n loads ≡ take n all =
      λ n few. ap (take n) started.left ∙ take-take n (length loads) all few in
      let ends : job.first < length slices → share shard < load_before slices (job.first + 1) =
      λ more. by_place (eq-or-lt_of_le within) more in
      let starts : load_before slices job.first ≤ share shard =
      omega (arith, from, ap sum (shorter job.first within)) in
      let ordered : reverse next ≡ job ∷ reverse jobs = ap reverse next_is ∙ jobs-push jobs job in
      record {
        behind = rw (ordered, ← shard_is) (starts, ends, started.behind);
        left = fewer_is ∙ shorter job.first within ∙ ap (λ n. take n all) (sym size);
        to = rw (size, ← shard_is) ends;
      }
    where
      by_place : (job.first ≡ length loads) ⊎ (job.first < length loads)
          → job.first < length slices
          → share_before workers slices shard < load_before slices (job.first + 1)
      by_place (inl same) more =
          rw same (omega (arith, rising, started.to (omega (arith, more, same))))
      by_place (inr less) more =
          rw (ap (take (job.first + 1)) started.left
          ∙ take-take (job.first + 1) (length loads) (map load_of slices) (omega (arith, less)))
          at (to less)
