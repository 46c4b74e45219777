-- What the lives of an update leave in the cells, and their newborns, by what one life does.
use Rattle.std.proofs.Common.{add-zero, zero-add, ◌≡◌, ℕ, suc, ◌+◌, ◌<◌, ◌≤◌, List, [], ◌∷◌, map, length, Option, Some, None, refl, arith}
use Rattle.std.specs.Prelude.{slice_index_or}
use Rattle.world_laws.proofs.Prelude.{AllByRecursion, range_with_len, recursion_from_All, Letter, AreRules, Run, draw, NewbornValue, life, IsSoundOrganism, IsBornOf, beginning, life_by, ConfigValues, Occupant, settings_at, CellLife, life_of, life_at, lives_of, slice_at, LifeLaws}
use Rattle.world_laws.proofs.ListLemmas.{got_some}
use Rattle.world_laws.proofs.Scenes.{Each}

-- a newborn as its parent's genome and the configuration's rules want it
abbrev pub IsNewborn : ConfigValues → List Letter → NewbornValue → Type 0
IsNewborn config parent newborn = IsBornOf parent config.rules newborn

-- a cell's life keeps who stands there, and bears few lawful newborns
pub record IsLifeOf (config : ConfigValues) (steps : ℕ) (o : Occupant) (l : CellLife) : Type 0 where
  pub who : Occupant
  pub stays : l.occupant ≡ Some who
  pub id : who.id ≡ o.id
  pub genome : who.organism.genome ≡ o.organism.genome
  pub sound : IsSoundOrganism who.organism
  pub few : length l.newborns ≤ steps
  pub newborns : AllByRecursion (IsNewborn config o.organism.genome) l.newborns

-- the same for a cell that may be empty
abbrev pub IsLife : ConfigValues → ℕ → Option Occupant → CellLife → Type 0
IsLife config steps None l = (l.occupant ≡ None) × (length l.newborns ≤ steps)
IsLife config steps (Some o) l = IsLifeOf config steps o l

-- one life, by the laws
life_is : (laws : LifeLaws) (config : ConfigValues) → AreRules config.rules
    → (update cell steps : ℕ) (slot : Option Occupant)
    → ((o : Occupant) → slot ≡ Some o → IsSoundOrganism o.organism)
    → IsLife config steps slot (life_of config update cell steps slot)
unfolding life_of life_by settings_at
life_is laws config are update cell steps None sound = (refl, omega arith)
life_is laws config are update cell steps (Some o) sound =
    let settings = settings_at config update in
    let lived = laws.lives settings (draw config.seed update cell Run) o.organism steps are
    (laws.words config.seed update cell Run) (sound o refl) in
    let ended = life settings (draw config.seed update cell Run) (beginning o.organism) steps in
    record {
      who = record { id = o.id; organism = ended.0.organism };
      stays = refl;
      id = refl;
      genome = lived.genome;
      sound = lived.sound;
      few = lived.few;
      newborns =
          recursion_from_All (IsNewborn config o.organism.genome) ended.0.newborns lived.newborns;
    }

-- lives stand beside their cells, each with its steps
abbrev pub AreLives : ConfigValues → (ℕ → ℕ) → ℕ → List (Option Occupant) → List CellLife → Type 0
AreLives config steps from [] [] = Unit {0}
AreLives config steps from [] (l ∷ lives) = ⊥
AreLives config steps from (slot ∷ cells) [] = ⊥
AreLives config steps from (slot ∷ cells) (l ∷ lives) =
    IsLife config (steps from) slot l × AreLives config steps (from + 1) cells lives

-- lives stand beside the cells from one on, where each is a life of its cell
lives_beside : (config : ConfigValues) (steps : ℕ → ℕ) (run : ℕ → CellLife) (from : ℕ)
    (cells : List (Option Occupant))
    → ((i : ℕ) → i < length cells
    → IsLife config (steps (from + i)) (slice_index_or cells i None) (run (from + i)))
    → AreLives config steps from cells (map run (range_with_len from (length cells)))
lives_beside config steps run from [] each = tt
lives_beside config steps run from (slot ∷ cells) each = (
  rw add-zero at (each 0 (omega arith)),
  lives_beside config steps run (from + 1) cells (λ i h.
      let next : from + suc i ≡ from + 1 + i = omega arith in
      rw (← next) (each (suc i) (omega (arith, h)))),
)

-- the lives of an update
pub lives_are : (laws : LifeLaws) (config : ConfigValues) → AreRules config.rules
    → (update : ℕ) (cells : List (Option Occupant)) → Each IsSoundOrganism cells
    → AreLives config (slice_at config cells) 0 cells (lives_of config update cells)
unfolding lives_of
lives_are laws config are update cells sound =
    lives_beside config (slice_at config cells) (life_at config update cells) 0 cells (λ i h.
    rw zero-add (life_is laws config are update i (slice_at config cells i) (slice_index_or cells i None)
    (λ o e. sound i o (got_some cells i o e))))
