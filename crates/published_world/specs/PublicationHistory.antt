-- What was published, and what was seen of it (docs/ARCHITECTURE.md, "Pictures and observers").
use Rattle.std.specs.Prelude.{◌≡◌, ◌+◌, ◌-◌, ℕ, List, Option, Some, length, slice_get, nat_lt, if◌then◌else◌}
use Rattle.published_world.specs.declared.shown.Shown.{Shown}

module _ {P : Type 0} where
  -- the first picture
  abbrev pub first_of : List P → Option P
  first_of pictures = slice_get pictures 0

  -- the last picture
  abbrev pub last_of : List P → Option P
  last_of pictures = slice_get pictures (length pictures - 1)

  -- the longer of two histories, and the first of them where they are as long
  abbrev pub longer : List P → List P → List P
  longer history other = if nat_lt (length history) (length other) then other else history

module _ {P O : Type 0} (number : P → ℕ) (of : P → O) where
  -- the numbers rise by 1 from picture to picture, and all are of what the first one is of
  pub record IsPublication (pictures : List P) : Type 0 where
    pub rises : (place : ℕ) (first picture : P)
        → first_of pictures ≡ Some first → slice_get pictures place ≡ Some picture
        → number picture ≡ number first + place
    pub same : (place : ℕ) (first picture : P)
        → first_of pictures ≡ Some first → slice_get pictures place ≡ Some picture
        → of picture ≡ of first

  -- a picture may come next
  pub record MayFollow (pictures : List P) (next : P) : Type 0 where
    pub rises : (last : P) → last_of pictures ≡ Some last → number next ≡ number last + 1
    pub same : (first : P) → first_of pictures ≡ Some first → of next ≡ of first

-- the number of pictures, and the last one
abbrev pub count_and_picture : {P : Type 0} → Shown P → ℕ × P
count_and_picture shown = (shown.count, shown.picture.value)
