-- The rule of a bank's table (docs/ARCHITECTURE.md, "The bank of genotypes"). Word 0 is the number
-- of draws and word 1 the number of calls that have ended, both modulo 2 ^ 64. The slot has the
-- catalog of the genomes, or nothing while a seat has it out.
use Rattle.std.specs.Prelude.{List, map, ℕ, [], ◌∷◌, slice_get, Option, option_and_then, ◌≡◌, ◌⊎◌, ◌+◌, ◌%◌, ◌^◌, ◌<◌, ◌≤◌, true, length, Some}
use Rattle.instruction_set.specs.declared.letter.Letter.{Letter}
use Rattle.genotype_bank.specs.Packing.{unpacked}
use Rattle.genotype_bank.specs.declared.packed_genome.PackedGenome.{PackedGenome}
use Rattle.genotype_bank.specs.declared.catalog.Catalog.{Catalog}
use Rattle.genotype_bank.specs.declared.view.Call.{Call}
use Rattle.genotype_bank.specs.declared.view.Call.TheVariants.{Interned, Refused}
use Rattle.std.specs.Option.{option_map_or}
use mathlib.Core.Option.{some}
use mathlib.Core.Option as maybe
use lib.ListN.{get_elem?}
use Rattle.atomic_table.specs.Table.{State, Me}
use Rattle.genotype_bank.specs.declared.view.View.{View}
use Rattle.genotype_bank.specs.declared.view.Entry.{Entry}
use Rattle.genotype_bank.specs.BankHistory.{genotypes_of, calls_under, SeatValue, all_shares}
use Rattle.atomic_table.specs.Seated.{TableId}
use Rattle.genotype_bank.specs.Views.{idle_view, total, draws_of, FitsHistory, AtMostOne, SomeSeat, AreSeats}

-- the letters of a packed genome
abbrev pub letters_of : PackedGenome → List Letter
letters_of genome = unpacked genome.words.items

-- the letters of packed genomes, in their order
abbrev pub letters_in : List PackedGenome → List (List Letter)
letters_in genomes = map letters_of genomes

-- the genomes of a catalog, in the order of their numbers
abbrev pub genomes_in : Catalog → List (List Letter)
genomes_in catalog = letters_in catalog.genomes.keys

-- what the last call came to, as the catalog has it
abbrev pub last_call : Catalog → Call
last_call catalog =
    option_map_or Interned (option_and_then (slice_get (genomes_in catalog)) catalog.last) Refused

-- the same of what a seat has out of the slot
abbrev pub call_in : List (ℕ × Option Catalog) → Call
call_in [] = Refused
call_in (x ∷ xs) = option_map_or last_call x.1 Refused

-- there is one history, of which each seat has seen a prefix, and the catalog has its genotypes.
-- The turns before its length are over, and the tickets from there to the number of draws are out
pub record IsBankTable (s : State (Option Catalog) View) : Type 0 where
  pub history : List Entry
  pub drawn : ℕ
  pub words : s.words ≡ (drawn % 2 ^ 64) ∷ (length history % 2 ^ 64) ∷ []
  pub out : drawn ≡ length history + total draws_of s.views
  pub turn : (t : ℕ) → AtMostOne (λ v. v.ticket ≡ Some t) s.views
  pub seats : AreSeats history s.views
  pub each : (j : ℕ) (v : View) → get_elem? s.views j ≡ some v → FitsHistory history drawn v
  -- the catalog is in the slot with the genotypes of the history, or it is out with a seat
  pub state : ((d : Catalog) × (s.homes ≡ some (Some d) ∷ [])
      × (genomes_in d ≡ genotypes_of history))
      ⊎ ((s.homes ≡ maybe.none ∷ []) × SomeSeat (λ v. v.holding ≡ true) s.views)

-- a seat's view, and what it has out of the slot
abbrev pub Seated : Type 0
Seated = Me (Option Catalog) View

-- what contracts see of a seat
abbrev pub seat_of : TableId → Seated → SeatValue
seat_of bank m = record { bank = bank; share = m.0.share; numbers = m.0.carried; seen = m.0.seen }

-- a seat between two calls, which has nothing out
pub record IsIdleSeat (m : Seated) : Type 0 where
  pub idle : m ≡ (idle_view m.0.share m.0.carried m.0.seen, [])
  pub some : 0 < m.0.share
  pub most : m.0.share ≤ all_shares
  -- a whole seat made all calls that it has seen
  pub owns : m.0.share ≡ all_shares → calls_under m.0.carried m.0.seen ≡ m.0.seen
