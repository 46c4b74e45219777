-- Insertions and deletions at a divide, as words draw them (docs/WORLD.md, "Records of birth").
-- An indel is either. Those of one kind are drawn at each letter of a text, and then once in it.
use Rattle.std.specs.Prelude.{ℕ, zero, suc, ◌+◌, ◌-◌, Bool, ◌&&◌, ◌==◌, nat_lt, if◌then◌else◌, List, [], ◌∷◌, length}
use Rattle.random_streams.specs.RandomStream.{scaled, hits}
use Rattle.mutations.specs.declared.change.Change.{Change}
use Rattle.mutations.specs.declared.change.Change.TheVariants.{Insert, Delete}
use Rattle.mutations.specs.declared.indels.Indel.{Indel}
use Rattle.mutations.specs.declared.indels.Indel.TheVariants.{Insertion, Deletion}
use Rattle.mutations.specs.declared.indels.IndelTest.{IndelTest}
use Rattle.mutations.specs.DivideErrors.{letter_of_word, Drawn, none_by, in_turn}
use Rattle.mutations.specs.Rates.{RateNumbers, LengthRange}

-- the lengths that the text of a test may have
abbrev pub test_range : IndelTest → LengthRange
test_range test = record { least = test.least; greatest = test.greatest }

-- whether a text of this length may have an indel
abbrev pub has_room : Indel → LengthRange → ℕ → Bool
has_room Insertion range len = nat_lt len range.greatest
has_room Deletion range len = nat_lt range.least len

-- at how many places a text of this length may have an indel
abbrev pub place_count : Indel → ℕ → ℕ
place_count Insertion len = len + 1
place_count Deletion len = len

-- a place in a text, and the number of the next word
pub record Spot : Type 0 where
  pub place : ℕ
  pub word : ℕ

-- the indel at a spot: the next word draws the letter of an insertion
abbrev pub indel_at : Indel → (ℕ → ℕ) → Spot → Drawn
indel_at Insertion words spot = record {
  changes = Insert spot.place (letter_of_word (words spot.word)) ∷ [];
  next = spot.word + 1;
}
indel_at Deletion words spot = record { changes = Delete spot.place ∷ []; next = spot.word }

-- the length that a text has after indels
abbrev pub length_after : Indel → List Change → ℕ → ℕ
length_after Insertion changes len = len + length changes
length_after Deletion changes len = len - length changes

-- what the test of the letter at a spot draws, where the text has this length
abbrev pub site_indel : IndelTest → (ℕ → ℕ) → ℕ → Spot → Drawn
site_indel test words len spot =
    if hits (words spot.word) test.rate && has_room test.kind (test_range test) len
    then indel_at test.kind words (record { place = spot.place; word = spot.word + 1 })
    else none_by (spot.word + 1)

-- what the tests of the last `left` letters of a text draw, the first of them at a spot
abbrev pub indels_from : IndelTest → (ℕ → ℕ) → ℕ → Spot → Drawn
indels_from test words zero spot = none_by spot.word
indels_from test words (suc left) spot =
    let here = site_indel test words (spot.place + suc left) spot in
    let place = length_after test.kind here.changes (spot.place + 1) in
    in_turn here (indels_from test words left (record { place = place; word = here.next }))

-- the length of a text that is being made, and the number of the next word
pub record Draft : Type 0 where
  pub size : ℕ
  pub word : ℕ

-- what the tests of all letters draw, where they are tested at all
abbrev pub site_indels : IndelTest → (ℕ → ℕ) → Draft → Drawn
site_indels test words draft =
    if test.rate == 0
    then none_by draft.word
    else indels_from test words draft.size (record { place = 0; word = draft.word })

-- the spot of the indel that the test of a whole text draws
abbrev pub single_spot : Indel → (ℕ → ℕ) → Draft → Spot
single_spot kind words draft = record {
  place = scaled (words (draft.word + 1)) (place_count kind draft.size);
  word = draft.word + 2;
}

-- what the test of a whole text draws: an indel at a place that a word draws
abbrev pub single_indel : IndelTest → (ℕ → ℕ) → Draft → Drawn
single_indel test words draft =
    if hits (words draft.word) test.rate && has_room test.kind (test_range test) draft.size
    then indel_at test.kind words (single_spot test.kind words draft)
    else none_by (draft.word + 1)

-- the draft after drawn indels
abbrev pub draft_after : Indel → Drawn → Draft → Draft
draft_after kind drawn draft =
    record { size = length_after kind drawn.changes draft.size; word = drawn.next }

-- the rate of an indel at each letter
abbrev pub site_rate : Indel → RateNumbers → ℕ
site_rate Insertion rates = rates.site_insert
site_rate Deletion rates = rates.site_delete

-- the rate of an indel in a whole text
abbrev pub single_rate : Indel → RateNumbers → ℕ
single_rate Insertion rates = rates.insert
single_rate Deletion rates = rates.delete

-- the test for an indel at a rate
abbrev pub test_at : Indel → ℕ → LengthRange → IndelTest
test_at kind rate range =
    record { kind = kind; rate = rate; least = range.least; greatest = range.greatest }

-- the indels of one kind: those at sites, then the single one
abbrev pub indels : Indel → RateNumbers → LengthRange → (ℕ → ℕ) → Draft → Drawn
indels kind rates range words draft =
    let each = test_at kind (site_rate kind rates) range in
    let single = test_at kind (single_rate kind rates) range in
    let sites = site_indels each words draft in
    in_turn sites (single_indel single words (draft_after kind sites draft))
