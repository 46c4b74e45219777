-- What a divide hands to the errors of a child, what these keep, and the records that words draw
-- (docs/WORLD.md, "Records of birth"). For example, each record has a form that a log can write:
-- `OfDrawnRecords (λ limits parent drawn. HasRecordForm drawn)`.
use Rattle.std.specs.Prelude.{◌≡◌, ◌+◌, ◌*◌, ◌≤◌, List, length, ℕ, ◌<◌, ◌^◌}
use Rattle.instruction_set.specs.declared.letter.Letter.{Letter}
use Rattle.random_streams.specs.RandomStream.{Stream, word_of}
use Rattle.mutations.specs.BirthRecord.{after_birth, BirthRecord, origin_of}
use Rattle.mutations.specs.Rates.{RateNumbers, LengthRange}
use Rattle.genome.specs.Lengths.{shortest_genome, longest_genome}

-- a text of a length that is allowed
pub record IsLengthWithin (range : LengthRange) (text : List Letter) : Type 0 where
  pub least : range.least ≤ length text
  pub greatest : length text ≤ range.greatest

-- the clean text and the written text of a child have one length, which is allowed
pub record AreTextsOfChild (range : LengthRange) (clean written : List Letter) : Type 0 where
  pub one_length : length clean ≡ length written
  pub within : IsLengthWithin range written

-- a birth takes the words that its record wants, at least two and at most six a letter and six
pub record TakesWordsOfBirth (old : Stream) (rates : RateNumbers) (range : LengthRange)
    (clean written : List Letter) (new : Stream) : Type 0 where
  pub words : new
      ≡ record old { taken = after_birth (word_of old) old.taken rates range clean written }
  pub least : old.taken + 2 ≤ new.taken
  pub most : new.taken ≤ old.taken + 6 * length written + 6

-- so it is with limits that are lengths of genomes, a parent and its record, whatever was drawn
abbrev pub OfDrawnRecords : (LengthRange → List Letter → BirthRecord → Type 0) → Type 0
OfDrawnRecords P = (words : ℕ → ℕ) (k : ℕ) (rates : RateNumbers) (limits : LengthRange)
    (clean written parent : List Letter)
    → ((n : ℕ) → words n < 2 ^ 32)
    → shortest_genome ≤ limits.least
    → limits.greatest ≤ longest_genome
    → AreTextsOfChild limits clean written
    → P limits parent (origin_of words k rates limits clean written parent)
