-- Calls of a bank, the numbers of genomes, and what contracts see of a seat (docs/ARCHITECTURE.md,
-- "The bank of genotypes").
use Rattle.std.specs.Prelude.{◌≢◌, ◌↔◌, ℕ, ◌==◌, Bool, true, false, List, [], ◌∷◌, ◌++◌, Option, None, Some, AllPairs, Contains, filter, filter_map, if◌then◌else◌, ◌≡◌, slice_get}
use Rattle.std.specs.List.{list_any}
use Rattle.instruction_set.specs.declared.letter.Letter.{Letter}
use Rattle.instruction_set.specs.Letter.{same_letters}
use Rattle.genome.specs.Genome.{different_of}
use Rattle.genotype_bank.specs.declared.view.Entry.{Entry}
use Rattle.genotype_bank.specs.declared.view.Call.{Call}
use Rattle.genotype_bank.specs.declared.view.Call.TheVariants.{Interned, Refused}
use mathlib.Core.List.{IsPrefix}
use Rattle.atomic_table.specs.Seated.{TableId}

-- a call of the seat that drew it under this number
abbrev pub entry : ℕ → Call → Entry
entry number call = record { seat = number; call = call }

-- what a call of this genome came to
abbrev pub call_of : Bool → List Letter → Call
call_of true genome = Interned genome
call_of false genome = Refused

-- the genome that a call interned
abbrev pub interned_genome : Call → Option (List Letter)
interned_genome (Interned genome) = Some genome
interned_genome Refused = None

-- the genomes that a history interned, in the order of its calls
abbrev pub genomes_of : List Entry → List (List Letter)
genomes_of history = filter_map (λ one. interned_genome one.call) history

-- the different genomes of a history, in order of first places, which are the genomes' numbers
abbrev pub genotypes_of : List Entry → List (List Letter)
genotypes_of history = different_of (genomes_of history)

-- a number is one of these
abbrev pub is_among : ℕ → List ℕ → Bool
is_among number numbers = list_any (λ other. number == other) numbers

-- the calls of a history that were drawn under one of these numbers
abbrev pub calls_under : List ℕ → List Entry → List Entry
calls_under numbers history = filter (λ one. is_among one.seat numbers) history

-- a genome stands behind these, unless it is one of them
abbrev pub with_genome : List (List Letter) → List Letter → List (List Letter)
with_genome genotypes genome =
    if list_any (same_letters genome) genotypes then genotypes else genotypes ++ genome ∷ []

-- the genotypes after one more call
abbrev pub with_call : List (List Letter) → Call → List (List Letter)
with_call genotypes (Interned genome) = with_genome genotypes genome
with_call genotypes Refused = genotypes

-- the first list has exactly the members of the second, each once
pub record HasEachOnce (genotypes genomes : List (List Letter)) : Type 0 where
  pub members : (genome : List Letter) → Contains genotypes genome ↔ Contains genomes genome
  pub once : AllPairs (λ one other. one ≢ other) genotypes

-- all shares of a bank together, which a whole seat has
abbrev pub all_shares : ℕ
all_shares = 4294967296

-- a seat's bank, share, numbers drawn under or taken over in a join, and the history it has seen
pub record SeatValue : Type 0 where
  pub bank : TableId
  pub share : ℕ
  pub numbers : List ℕ
  pub seen : List Entry

-- a seat's own calls
abbrev pub own_calls_of : SeatValue → List Entry
own_calls_of seat = calls_under seat.numbers seat.seen

-- a seat has seen one more call, its own, after what others called meanwhile, if it isn't whole
pub record MakesCall (before after : SeatValue) (call : Call) : Type 0 where
  pub number : ℕ
  pub others : List Entry
  pub seen : after.seen ≡ before.seen ++ others ++ entry number call ∷ []
  pub own : own_calls_of after ≡ own_calls_of before ++ entry number call ∷ []
  pub alone : before.share ≡ all_shares → after.seen ≡ before.seen ++ entry number call ∷ []

-- two histories that begin one history number genomes alike: equal numbers for equal genomes alone
abbrev pub NumbersAgree : Type 0
NumbersAgree =
    (early late history : List Entry) (number other : ℕ) (genome twin : List Letter)
    → IsPrefix early history → IsPrefix late history
    → slice_get (genotypes_of early) number ≡ Some genome
    → slice_get (genotypes_of late) other ≡ Some twin
    → (number ≡ other) ↔ (genome ≡ twin)
