-- How the jobs of an update part the cells and share a seat (docs/ARCHITECTURE.md, "Shards").
use Rattle.std.specs.Prelude.{◌≡◌, ℕ, zero, suc, ◌+◌, ◌-◌, ◌<◌, ◌≤◌, ◌++◌, All, List, [], ◌∷◌, if◌then◌else◌, length, map, max, nat_eq, sum, take, Option}
use Rattle.world_core.specs.Prelude.{flat_map, sum_by, IsPermutation, IsPrefix, IsNumbered, SeatValue, own_calls_of, OrganismState}
use Rattle.cell_shards.specs.declared.finished.Finished.{Finished}
use Rattle.cell_shards.specs.declared.job.Job.{Job}
use Rattle.cell_shards.specs.Shards.{first_cell}

-- how much work a life is, in steps: it begins with a random stream, which takes as long as some 16
abbrev pub load_of : ℕ → ℕ
load_of zero = 0
load_of (suc steps) = suc steps + 16

-- the cells of these jobs lie side by side from the first one on, each with its steps
abbrev pub LieSideBySide : ℕ → List Job → Type 0
LieSideBySide first [] = Unit {0}
LieSideBySide first (job ∷ jobs) =
    (job.first ≡ first) × (length job.slices ≡ length job.cells)
    × LieSideBySide (first + length job.cells) jobs

-- these jobs have all cells from 0 on and their steps, in order
pub record PartCells (jobs : List Job) (cells : List (Option OrganismState))
    (slices : List ℕ) : Type 0 where
  pub beside : LieSideBySide 0 jobs
  pub cells_are : flat_map (λ job. job.cells) jobs ≡ cells
  pub slices_are : flat_map (λ job. job.slices) jobs ≡ slices

-- the load of the cells before this one
abbrev pub load_before : List ℕ → ℕ → ℕ
load_before slices cell = sum (take cell (map load_of slices))

-- into how many shards the cells are cut: one for one worker, else so many that who ends takes more
abbrev pub shards_for : ℕ → ℕ
shards_for workers = if nat_eq workers 1 then 1 else max 32 workers

-- the load before a shard, were each of so many to have as much
abbrev pub share_before : ℕ → List ℕ → ℕ → ℕ
share_before shards slices shard = first_cell (sum (map load_of slices)) shards shard

-- the shards from this one to the last, each of which starts at the last cell within its share
abbrev pub FollowShares : ℕ → List ℕ → ℕ → List Job → Type 0
FollowShares shards slices shard [] = shard ≡ shards
FollowShares shards slices shard (job ∷ jobs) =
    (load_before slices job.first ≤ share_before shards slices shard)
    × (job.first < length slices
    → share_before shards slices shard < load_before slices (job.first + 1))
    × FollowShares shards slices (shard + 1) jobs

-- as many jobs as shards, each but the first of which starts at its share
abbrev pub ShareLoad : ℕ → List ℕ → List Job → Type 0
ShareLoad shards slices [] = ⊥
ShareLoad shards slices (job ∷ jobs) = FollowShares shards slices 1 jobs

-- a seat that another gave a share of 1
abbrev pub seat_from : SeatValue → SeatValue
seat_from seat = record { bank = seat.bank; share = 1; numbers = []; seen = seat.seen }

-- a seat that gave as many shares
abbrev pub seat_without : SeatValue → ℕ → SeatValue
seat_without seat shares = record seat { share = seat.share - shares }

-- the first job has the seat, but for a share that each other has
abbrev pub ShareSeat : SeatValue → List Job → Type 0
ShareSeat seat [] = ⊥
ShareSeat seat (job ∷ jobs) =
    (job.seat ≡ seat_without seat (length jobs)) × All (λ other. other.seat ≡ seat_from seat) jobs

-- shards joined behind a first one: cells, counts, newborns and dead in order, and one seat of all
pub record IsJoined (first : Finished) (others : List Finished) (whole : Finished) : Type 0 where
  pub cells : whole.cells ≡ first.cells ++ flat_map (λ one. one.cells) others
  pub standings : whole.standings ≡ first.standings ++ flat_map (λ one. one.standings) others
  pub births : whole.births ≡ first.births ++ flat_map (λ one. one.births) others
  pub dead : whole.dead ≡ first.dead ++ flat_map (λ one. one.dead) others
  pub bank : whole.seat.bank ≡ first.seat.bank
  pub share : whole.seat.share ≡ first.seat.share + sum_by (λ one. one.seat.share) others
  pub seen : IsPrefix first.seat.seen whole.seat.seen
  pub numbers : All (IsNumbered whole.seat.seen) whole.births
  pub own : IsPermutation
      (own_calls_of first.seat ++ flat_map (λ one. own_calls_of one.seat) others)
      (own_calls_of whole.seat)
