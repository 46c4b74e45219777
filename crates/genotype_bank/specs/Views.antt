-- What seats know (docs/ARCHITECTURE.md, "The bank of genotypes").
use Rattle.std.specs.Prelude.{◌≡◌, ℕ, ◌+◌, ◌<◌, ◌≤◌, List, [], ◌∷◌, true, false, length, Option, Some, None}
use mathlib.Core.Option.{some}
use mathlib.Core.List.{IsPrefix}
use lib.ListN.{get_elem?}
use Rattle.genotype_bank.specs.declared.view.View.{View}
use Rattle.genotype_bank.specs.declared.view.Memo.{Memo}
use Rattle.genotype_bank.specs.declared.view.Entry.{Entry}
use Rattle.genotype_bank.specs.BankHistory.{is_among, all_shares}

-- a seat between two calls
abbrev pub idle_view : ℕ → List ℕ → List Entry → View
idle_view share carried seen = record {
  share = share;
  carried = carried;
  seen = seen;
  ticket = None;
  holding = false;
  past = [];
}

-- the whole seat that a bank begins with
abbrev pub first_view : View
first_view = idle_view all_shares [] []

-- what is left of a seat that was joined into another
abbrev pub spent_view : View
spent_view = idle_view 0 [] []

-- the sum over all seats
abbrev pub total : (View → ℕ) → List View → ℕ
total f [] = 0
total f (v ∷ vs) = f v + total f vs

-- a seat's share
abbrev pub seat_share : View → ℕ
seat_share v = v.share

-- 1 for a ticket
abbrev pub one_if : Option ℕ → ℕ
one_if None = 0
one_if (Some t) = 1

-- how many tickets a seat has
abbrev pub draws_of : View → ℕ
draws_of v = one_if v.ticket

-- a seat carries a number
abbrev pub Carries : View → ℕ → Type 0
Carries v n = is_among n v.carried ≡ true

-- what was seen of a history has all entries with these numbers
abbrev pub SawOwn : List ℕ → List Entry → List Entry → Type 0
SawOwn carried seen history =
    (i : ℕ) (e : Entry) → get_elem? history i ≡ some e → is_among e.seat carried ≡ true
    → i < length seen

-- what holds of one seat, when the bank has this history and so many draws
pub record FitsHistory (history : List Entry) (drawn : ℕ) (v : View) : Type 0 where
  -- what it has seen is a prefix of the history
  pub begins : IsPrefix v.seen history
  -- only a spent seat has no share
  pub spent : v.share ≡ 0 → v ≡ spent_view
  -- its ticket was drawn, and its turn is not over
  pub waits : (t : ℕ) → v.ticket ≡ Some t → (length history ≤ t) × (t < drawn)
  -- the catalog is out with it in its own turn alone, and then it has seen the whole history
  pub holds : v.holding ≡ true → (v.ticket ≡ Some (length history)) × (v.seen ≡ history)
  -- it has seen its own calls
  pub saw : SawOwn v.carried v.seen history
  -- each seat that it was joined from had seen its own calls, and it has seen and carries the same
  pub recalls : (k : ℕ) (m : Memo) → get_elem? v.past k ≡ some m
      → IsPrefix m.seen v.seen × SawOwn m.carried m.seen history
      × ((n : ℕ) → is_among n m.carried ≡ true → Carries v n)
  -- no two of these carried one number
  pub once : (k l : ℕ) (m o : Memo) (n : ℕ)
      → get_elem? v.past k ≡ some m → get_elem? v.past l ≡ some o
      → is_among n m.carried ≡ true → is_among n o.carried ≡ true → k ≡ l

-- at most one seat is so
abbrev pub AtMostOne : (View → Type 0) → List View → Type 0
AtMostOne P views =
    (j k : ℕ) (v w : View) → get_elem? views j ≡ some v → get_elem? views k ≡ some w
    → P v → P w → j ≡ k

-- some seat is so
abbrev pub SomeSeat : (View → Type 0) → List View → Type 0
SomeSeat P views = (j : ℕ) × (v : View) × (get_elem? views j ≡ some v) × P v

-- a number is the place of the seat that drew under it first, which is spent or carries it itself
abbrev pub NumbersArePlaces : List View → Type 0
NumbersArePlaces views =
    (j : ℕ) (v : View) (n : ℕ) → get_elem? views j ≡ some v → Carries v n
    → (u : View) × (get_elem? views n ≡ some u) × (0 < u.share → j ≡ n)

-- the seats of a bank with this history
pub record AreSeats (history : List Entry) (views : List View) : Type 0 where
  -- their shares sum up to all
  pub shares : total seat_share views ≡ all_shares
  -- no two carry one number
  pub apart : (n : ℕ) → AtMostOne (λ v. Carries v n) views
  pub placed : NumbersArePlaces views
  -- the number of each call is carried
  pub called : (k : ℕ) (e : Entry) → get_elem? history k ≡ some e
      → SomeSeat (λ v. Carries v e.seat) views
  -- some seat has seen the whole history
  pub known : SomeSeat (λ v. v.seen ≡ history) views
