-- What each step on a bank's table tells (docs/ARCHITECTURE.md, "The bank of genotypes").
use Rattle.std.specs.Prelude.{◌≡◌, ◌⊎◌, ℕ, ◌+◌, ◌-◌, ◌%◌, ◌^◌, ◌≤◌, List, [], ◌∷◌, ◌++◌, true, false, if◌then◌else◌, nat_lt, slice_index, length, Option, Some, None}
use mathlib.Core.Option.{some}
use mathlib.Core.List.{IsPrefix}
use lib.ListN.{get_elem?}
use Rattle.atomic_table.specs.Table.{Step, rest}
use Rattle.genotype_bank.specs.declared.catalog.Catalog.{Catalog}
use Rattle.genotype_bank.specs.declared.view.View.{View}
use Rattle.genotype_bank.specs.declared.view.Memo.{Memo}
use Rattle.genotype_bank.specs.declared.view.Entry.{Entry}
use Rattle.genotype_bank.specs.BankHistory.{entry, genotypes_of, is_among, calls_under, all_shares}
use Rattle.genotype_bank.specs.BankTable.{genomes_in, call_in, Seated}
use Rattle.genotype_bank.specs.Views.{idle_view}

-- a seat with its ticket and, from now on, a number of its own
abbrev pub with_ticket : View → ℕ → ℕ → View
with_ticket v j t = record v { carried = j ∷ v.carried; ticket = Some t; holding = false }

-- a draw gives the ticket, and no call that was seen has the seat's number already
abbrev pub HasDrawn : Step (Option Catalog) → Seated → ℕ → Seated → Type 0
HasDrawn st m r m' =
    (j : ℕ) × (t : ℕ) × (r ≡ t % 2 ^ 64) × (m' ≡ (with_ticket m.0 j t, m.1))
    × (calls_under (j ∷ m.0.carried) m.0.seen ≡ calls_under m.0.carried m.0.seen)

-- a seat in its turn, which has seen the whole history
abbrev pub at_turn : View → List Entry → View
at_turn v history = record v { seen = history; holding = true }

-- a look at the turn: in its own, a seat has seen the whole history, and the catalog is out with it
abbrev pub HasLooked : Step (Option Catalog) → Seated → ℕ → Seated → Type 0
HasLooked st m r m' =
    (t : ℕ) → m.0.ticket ≡ Some t →
    ((r ≡ t % 2 ^ 64)
    × ((history : List Entry) × (d : Catalog)
    × (m' ≡ (at_turn m.0 history, (0, Some d) ∷ []))
    × (genomes_in d ≡ genotypes_of history)
    × IsPrefix m.0.seen history
    × (calls_under m.0.carried history ≡ calls_under m.0.carried m.0.seen)))
    ⊎ ((r ≡ t % 2 ^ 64 → ⊥) × (m' ≡ m))

-- what is left of a seat that gives a share of 1 to a new one
abbrev pub kept_half : View → View
kept_half v = idle_view (v.share - 1) v.carried v.seen

-- the new seat: it has seen the same, and has no calls
abbrev pub new_half : View → View
new_half v = idle_view 1 [] v.seen

-- the longer of two histories
abbrev pub longer : List Entry → List Entry → List Entry
longer xs ys = if nat_lt (length xs) (length ys) then ys else xs

-- what a joined seat keeps of a seat until it has learned from it
abbrev pub memo_of : View → Memo
memo_of v = record { carried = v.carried; seen = v.seen }

-- two seats as one
abbrev pub joined_view : View → View → View
joined_view v w = record {
  share = v.share + w.share;
  carried = v.carried ++ w.carried;
  seen = longer v.seen w.seen;
  ticket = None;
  holding = false;
  past = memo_of v ∷ memo_of w ∷ [];
}

-- the number under which a seat drew last
abbrev pub last_drawn_number : View → ℕ
last_drawn_number v = slice_index v.carried 0

-- the history with the call of this turn
abbrev pub after_turn : Seated → List Entry
after_turn m = m.0.seen ++ entry (last_drawn_number m.0) (call_in m.1) ∷ []

-- the release of a turn: the call is the last of the history, and a whole seat made all calls
abbrev pub HasReleased : Step (Option Catalog) → Seated → ℕ → Seated → Type 0
HasReleased st m r m' =
    (m' ≡ (idle_view m.0.share m.0.carried (after_turn m), rest m.1))
    × (m.0.share ≡ all_shares → calls_under m.0.carried (after_turn m) ≡ after_turn m)

-- what a joined seat has learned of the seats that it was joined from
abbrev pub HasRecalled : Step (Option Catalog) → Seated → ℕ → Seated → Type 0
HasRecalled st m r m' =
    (m' ≡ (idle_view m.0.share m.0.carried m.0.seen, m.1))
    × ((k : ℕ) (x : Memo) → get_elem? m.0.past k ≡ some x
    → IsPrefix x.seen m.0.seen
    × (calls_under x.carried m.0.seen ≡ calls_under x.carried x.seen))
    × ((k l : ℕ) (x y : Memo) (n : ℕ)
    → get_elem? m.0.past k ≡ some x → get_elem? m.0.past l ≡ some y
    → is_among n x.carried ≡ true → is_among n y.carried ≡ true → k ≡ l)
    × (m.0.share ≤ all_shares)
    × (m.0.share ≡ all_shares → calls_under m.0.carried m.0.seen ≡ m.0.seen)
