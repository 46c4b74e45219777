-- The rule of the published value, and its steps (docs/ARCHITECTURE.md, "Pictures and observers").
use Rattle.std.specs.Prelude.{◌≡◌, ◌⊎◌, ◌<◌, ℕ, List, [], ◌∷◌, ◌++◌, length, take, true, false, Option, Some}
use mathlib.Core.List.{IsPrefix}
use mathlib.Core.Option.{some}
use lib.ListN.{get_elem?}
use Rattle.atomic_table.specs.declared.shared.Seat.{Seat}
use Rattle.left_right.specs.declared.board.Doing.{Doing}
use Rattle.left_right.specs.declared.part.Part.{Part}
use Rattle.left_right.specs.Sides.{view}
use Rattle.published_world.specs.declared.shown.Shown.{Shown}
use Rattle.published_world.specs.declared.view.View.{View}
use Rattle.published_world.specs.PublicationHistory.{IsPublication, last_of}

module _ {P : Type 0} where
  -- what a reader or the writer has seen
  abbrev pub seen_at : Seat (Option (Part (Shown P))) (Doing (Shown P) (View P)) → List P
  seen_at seat = (view seat).seen

  -- who has seen nothing
  abbrev pub newcomer : View P
  newcomer = record { writes = false; seen = [] }

  -- a reader that has seen as much
  abbrev pub reader_of : View P → View P
  reader_of v = record { writes = false; seen = v.seen }

  -- a view that has learned what another has seen
  abbrev pub told : View P → View P → View P
  told v other = record { writes = v.writes; seen = other.seen }

  -- the length of a history is shown, and its last picture where it has one
  pub record Shows (log : List P) (shown : Shown P) : Type 0 where
    pub length_is : length log ≡ shown.count
    pub last_is : 0 < shown.count → last_of log ≡ Some shown.picture.value

  -- who has seen a prefix of the history; the one that writes sits at this seat and has seen it all
  pub record Fits (writer : ℕ) (log : List P) (seat : ℕ) (v : View P) : Type 0 where
    pub prefix : IsPrefix v.seen log
    pub whole : v.writes ≡ true → (seat ≡ writer) × (v.seen ≡ log) × (0 < length log)

  -- the publisher appended the picture that is shown to all that was published
  abbrev pub Appends : View P → Shown P → Shown P → View P → Type 0
  Appends v before after w = w ≡ record { writes = true; seen = v.seen ++ after.picture.value ∷ [] }

module _ {P O : Type 0} (number : P → ℕ) (of : P → O) where
  -- there is one history, whose end is shown, and each view has seen a prefix of it
  pub record KeepsAt (writer : ℕ) (log : List P) (shown : Shown P) (views : List (View P)) : Type 0
    where
      pub shows : Shows log shown
      pub publication : IsPublication number of log
      pub fits : (seat : ℕ) (v : View P) → get_elem? views seat ≡ some v → Fits writer log seat v

  abbrev pub Keeps : Shown P → List (View P) → Type 0
  Keeps shown views = (writer : ℕ) × (log : List P) × KeepsAt writer log shown views

  -- the reader has seen the history so far, whose end is shown
  pub record LooksTo (v : View P) (shown : Shown P) (w : View P) : Type 0 where
    pub writes : w.writes ≡ v.writes
    pub prefix : IsPrefix v.seen w.seen
    pub shows : Shows w.seen shown
    pub publication : IsPublication number of w.seen

  abbrev pub Looks : View P → Shown P → Shown P → View P → Type 0
  Looks v before after w = LooksTo v after w

  -- the first pictures of those seen, so many as are counted, are a history that ends with this one
  pub record IsSeen (seen : List P) (last : Shown P) : Type 0 where
    pub length_is : length (take last.count seen) ≡ last.count
    pub last_is : last_of (take last.count seen) ≡ Some last.picture.value
    pub publication : IsPublication number of (take last.count seen)

  -- all pictures that were seen are a history that ends with this one
  pub record IsWholeSeen (seen : List P) (last : Shown P) : Type 0 where
    pub length_is : length seen ≡ last.count
    pub last_is : last_of seen ≡ Some last.picture.value
    pub publication : IsPublication number of seen

  -- the writer has seen as much as is shown; once anything was published, it is the one that writes
  pub record MayWrite (shown : Shown P) (v : View P) : Type 0 where
    pub right : (v.writes ≡ true) ⊎ (shown.count ≡ 0)
    pub length_is : length v.seen ≡ shown.count
    pub publication : IsPublication number of v.seen
