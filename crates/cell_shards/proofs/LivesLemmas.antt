-- One more cell that has lived.
use Rattle.std.proofs.Common.{◌≡◌, ◌∙◌, ap, sym, subst, ℕ, ◌+◌, ◌<◌, Bool, Option, None, Some, List, [], ◌∷◌, ◌++◌, length, map, drop, set, get_or, All, arith, append-nil, append_assoc}
use Rattle.cell_shards.proofs.Prelude.{range_with_len, map-append, length-map, get_or_at, set_at, drop_more, drop_all, length-map-range_with_len, map-range_with_len_more, draw, beginning, OrganismLife, ended_life, life_by, NewbornValue, OrganismState, LifeState, is_death, life, IsYoung, Part, RoundNumbers, births_from, dead_in, deaths_from, left_in, newborns_in, shard_life_at, shard_life_of, shard_lives_of, standing_in, HasInterned, IsFinished, birth_of, part_of, Finished, Job}
use Rattle.random_streams.specs.declared.purpose.Purpose.TheVariants.{Run}
use Rattle.organism.specs.declared.ran.Ran.{Ran}
use Rattle.cell_shards.specs.declared.standing.Standing.{Standing}
use Rattle.cell_shards.proofs.PartLemmas.{told-push}

-- a life that left this organism in its cell
abbrev pub lived_as : Option OrganismState → Bool → List NewbornValue → OrganismLife
lived_as left died newborns = record { organism = left; died = died; newborns = newborns }

-- the life of a cell is that of its organism
pub life_of-run : (round : RoundNumbers) (cell steps : ℕ) (o : OrganismState) (words : ℕ → ℕ)
    (start after : LifeState) (ran : Ran) (died : Bool)
    → words ≡ draw round.seed round.update cell Run → start ≡ beginning o
    → (after, ran) ≡ life round.settings words start steps → died ≡ is_death ran
    → shard_life_of round cell steps (Some o)
    ≡ lived_as (Some after.organism) died after.newborns
unfolding life_by
life_of-run round cell steps o words start after ran died alike begins ends dies =
    let whole : life round.settings words start steps
    ≡ life round.settings (draw round.seed round.update cell Run) (beginning o) steps =
    λ i. life round.settings (alike i) (begins i) steps in
    sym (ap ended_life (ends ∙ whole))
    ∙ ap (λ (b : Bool). lived_as (Some after.organism) b after.newborns) (sym dies)

-- the lives of the first cells
abbrev pub first_lives : RoundNumbers → Part → ℕ → List OrganismLife
first_lives round part n = map (shard_life_at round part) (range_with_len 0 n)

-- where the first cells have lived
pub record HaveLived (round : RoundNumbers) (part : Part) (n : ℕ)
    (cells : List (Option OrganismState)) (standings : List (Option Standing))
    (births : List (ℕ × NewbornValue)) (dead : List ℕ) : Type 0 where
  pub cells_are : cells ≡ map left_in (first_lives round part n) ++ drop n part.cells
  pub standings_are : standings ≡ map standing_in (map left_in (first_lives round part n))
  pub births_are : births ≡ births_from part.first (first_lives round part n)
  pub dead_are : dead ≡ deaths_from part.first (first_lives round part n)

-- the next cell has not lived yet
cell-next : (start cells : List (Option OrganismState)) (lives : List OrganismLife) (n : ℕ)
    (d : Option OrganismState) → length lives ≡ n → n < length start
    → cells ≡ map left_in lives ++ drop n start → get_or cells n d ≡ get_or start n d
cell-next start cells lives n d long within here =
    let front : length (map left_in lives) ≡ n = length-map lives left_in ∙ long in
    rw (here, drop_more start n d within)
    (get_or_at (map left_in lives) (get_or start n d) (drop (n + 1) start) d n front)

-- the cells where one more has lived
cells-push : (start cells : List (Option OrganismState)) (lives : List OrganismLife) (l : OrganismLife)
    (n : ℕ) → length lives ≡ n → n < length start → cells ≡ map left_in lives ++ drop n start
    → set cells n (left_in l) ≡ map left_in (lives ++ l ∷ []) ++ drop (n + 1) start
cells-push start cells lives l n long within here =
    let front : length (map left_in lives) ≡ n = length-map lives left_in ∙ long in
    rw (here, drop_more start n None within, map-append, append_assoc)
    (set_at (map left_in lives) (get_or start n None) (drop (n + 1) start) (left_in l) n front)

-- who stands in the next cell is as young as at the start
pub HaveLived-next : (round : RoundNumbers) (part : Part) (n : ℕ)
    (cells : List (Option OrganismState)) (standings : List (Option Standing))
    (births : List (ℕ × NewbornValue)) (dead : List ℕ) (d : Option OrganismState)
    → HaveLived round part n cells standings births dead → n < length part.cells
    → All IsYoung part.cells → IsYoung (get_or cells n d)
HaveLived-next round part n cells standings births dead d so_far within young =
    let next = cell-next part.cells cells (first_lives round part n) n d
    (length-map-range_with_len (shard_life_at round part) 0 n) within so_far.cells_are in
    subst IsYoung (sym next) (young n d within)

module _ {round : RoundNumbers} {part : Part} {n : ℕ} {cells : List (Option OrganismState)}
    {standings : List (Option Standing)} {births : List (ℕ × NewbornValue)} {dead : List ℕ} where
  -- one more cell has
  pub HaveLived-more : (l : OrganismLife) {old left : Option OrganismState}
      {next_standings : List (Option Standing)} {next_births : List (ℕ × NewbornValue)} {next_dead : List ℕ}
      → HaveLived round part n cells standings births dead → n < length part.cells
      → old ≡ get_or cells n None
      → shard_life_of round (part.first + n) (get_or part.slices n 0) old ≡ l → left ≡ left_in l
      → next_standings ≡ standings ++ standing_in left ∷ []
      → next_births ≡ births ++ newborns_in (part.first + n, l)
      → next_dead ≡ dead ++ dead_in (part.first + n, l)
      → HaveLived round part (n + 1) (set cells n left) next_standings next_births next_dead
  HaveLived-more l so_far within was lived gone told born buried =
      let cell = part.first + n in
      let lives = first_lives round part n in
      let size : length lives ≡ n = length-map-range_with_len (shard_life_at round part) 0 n in
      let place : part.first + length lives ≡ cell = omega (arith, size) in
      let stood = was ∙ cell-next part.cells cells lives n None size within so_far.cells_are in
      let is : shard_life_at round part n ≡ l =
      sym (ap (shard_life_of round cell (get_or part.slices n 0)) stood) ∙ lived in
      let more : first_lives round part (n + 1) ≡ lives ++ l ∷ [] =
      map-range_with_len_more (shard_life_at round part) 0 n n (omega arith)
      ∙ ap (λ x. lives ++ x ∷ []) is in
      record {
        cells_are =
            rw (gone, more) (cells-push part.cells cells lives l n size within so_far.cells_are);
        standings_are = rw (told, so_far.standings_are, gone, more) (simp map-append);
        births_are =
            rw (born, so_far.births_are, more, told-push newborns_in part.first lives l cell place);
        dead_are =
            rw (buried, so_far.dead_are, more, told-push dead_in part.first lives l cell place);
      }

-- a job is finished where all its cells have lived and its seat has interned their newborns
pub IsFinished-lived : (round : RoundNumbers) (job : Job) (n : ℕ)
    {cells : List (Option OrganismState)} {standings : List (Option Standing)} {finished : Finished}
    → n ≡ length job.cells
    → HaveLived round (part_of job) n cells standings (map birth_of finished.births) finished.dead
    → HasInterned job.seat finished.seat finished.births
    → finished.first ≡ job.first → finished.cells ≡ cells → finished.standings ≡ standings
    → IsFinished round job finished
unfolding shard_lives_of
IsFinished-lived round job n {cells = cells} all lived interned first same told =
    let part = part_of job in
    let lives : first_lives round part n ≡ shard_lives_of round part =
    ap (first_lives round part) all in
    let left : cells ≡ map left_in (shard_lives_of round part) =
    rw (lived.cells_are, drop_all n job.cells (omega (arith, all)), append-nil, lives) in
    record {
      first = first;
      cells = same ∙ left;
      standings = rw (told, lived.standings_are, same, left, lives);
      births = lived.births_are ∙ ap (births_from job.first) lives;
      dead = lived.dead_are ∙ ap (deaths_from job.first) lives;
      seat = interned;
    }
