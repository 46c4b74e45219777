-- Several words at the front of a row (docs/FORMATS.md, "Saved worlds").
use Rattle.std.specs.Prelude.{◌≡◌, ℕ, zero, suc, ◌≤◌, List, [], ◌∷◌, ◌++◌, map, length, Option, Some, None, option_and_then, option_map, decimal}
use Rattle.saved_lines.specs.Prelude.{AllByRecursion, number_of, Field, Row}
use Rattle.saved_lines.specs.declared.range.Range.{Range}

-- the words of values, what is read of the front of words, with those behind it, and which fit
pub record Front (A : Type 0) : Type 1 where
  pub texts : A → List (List ℕ)
  pub read : List (List ℕ) → Option (A × List (List ℕ))
  pub Fits : A → Type 0

-- one item more in front of those that were read
abbrev pub with_item :
    {A : Type 0} → Option (List A × List (List ℕ)) → A → Option (List A × List (List ℕ))
with_item others item = option_map (λ found. (item ∷ found.0, found.1)) others

-- so many words, each read in the same way
abbrev pub read_several :
    {A : Type 0} → (List ℕ → Option A) → ℕ → List (List ℕ) → Option (List A × List (List ℕ))
read_several read zero words = Some ([], words)
read_several read (suc count) [] = None
read_several read (suc count) (word ∷ words) =
    option_and_then (with_item (read_several read count words)) (read word)

-- so many words of one field
abbrev pub several : {A : Type 0} → ℕ → Field A → Front (List A)
several count f =
    record {
      texts = map f.text;
      read = λ words. read_several f.read count words;
      Fits = λ items. (length items ≡ count) × AllByRecursion f.Fits items;
    }

-- from the least to the greatest
abbrev pub from_to : ℕ → ℕ → Range
from_to least greatest = record { least = least; greatest = greatest }

-- the numbers that words spell, each within its range
abbrev pub read_within : List Range → List (List ℕ) → Option (List ℕ × List (List ℕ))
read_within [] words = Some ([], words)
read_within (range ∷ ranges) [] = None
read_within (range ∷ ranges) (word ∷ words) =
    option_and_then (with_item (read_within ranges words))
    (number_of range.least range.greatest word)

-- there is a number for each range, and it is within it
abbrev pub AreWithin : List Range → List ℕ → Type 0
AreWithin [] [] = Unit {0}
AreWithin (range ∷ ranges) (n ∷ ns) =
    (range.least ≤ n) × (n ≤ range.greatest) × AreWithin ranges ns
AreWithin _ _ = ⊥

-- a number for each range
abbrev pub within : List Range → Front (List ℕ)
within ranges =
    record {
      texts = map (λ n. decimal n);
      read = λ words. read_within ranges words;
      Fits = AreWithin ranges;
    }

-- the value, where no word is left
abbrev pub if_last : {A : Type 0} → A × List (List ℕ) → Option A
if_last (a, []) = Some a
if_last (a, word ∷ words) = None

-- words that end the row
abbrev pub whole : {A : Type 0} → Front A → Row A
whole f =
    record {
      texts = f.texts;
      read = λ words. option_and_then if_last (f.read words);
      Fits = f.Fits;
    }

infixr 20 ◌◁◌
-- several words, and the row behind them
abbrev pub ◌◁◌ : {A B : Type 0} → Front A → Row B → Row (A × B)
f ◁ r =
    record {
      texts = λ p. f.texts p.0 ++ r.texts p.1;
      read = λ words.
          option_and_then (λ found. option_map (λ b. (found.0, b)) (r.read found.1)) (f.read words);
      Fits = λ p. f.Fits p.0 × r.Fits p.1;
    }
