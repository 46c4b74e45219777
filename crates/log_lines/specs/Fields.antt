-- A field of a line: a value's text, and the reading of that text (docs/FORMATS.md, "The log"). A
-- text is a list of bytes. For example, the field of an organism's id writes 12 as `12`, reads `12`
-- as 12, and reads nothing from `012`, from `x` or from an empty text.
use Rattle.std.specs.Prelude.{◌≡◌, ℕ, ◌≤◌, List, [], ◌∷◌, map, length, Option, Some, None, Bool, true, ◌==◌, if◌then◌else◌, option_and_then, option_map, IfSome, decimal}
use Rattle.log_lines.specs.Prelude.{code, bytes_eq, slice_split, AllByRecursion, option_map_or, Letter, byte_of, letter_of_byte, is_genome_length, number_of}
use Rattle.log_lines.specs.Line.{comma_word}

-- the text of a value, the value that is read from a text, and which values the field allows
pub record Field (A : Type 0) : Type 1 where
  pub text : A → List ℕ
  pub read : List ℕ → Option A
  pub Fits : A → Type 0

-- the value where the test holds, else none
abbrev pub given : {A : Type 0} → Bool → A → Option A
given test value = if test then Some value else None

-- a number from least to greatest, in decimal digits without a leading zero
abbrev pub number : ℕ → ℕ → Field ℕ
number least greatest =
    record {
      text = λ n. decimal n;
      read = λ word. number_of least greatest word;
      Fits = λ n. (least ≤ n) × (n ≤ greatest);
    }

-- what is read from each item, in order; none where one of them is not readable
abbrev pub each : {X A : Type 0} → (X → Option A) → List X → Option (List A)
each read [] = Some []
each read (x ∷ xs) =
    option_and_then (λ a. option_map (λ others. a ∷ others) (each read xs)) (read x)

-- the genome, of 8 to 8,192 letters, that a word spells with a byte for each letter
unfoldable pub genome_of_word : List ℕ → Option (List Letter)
genome_of_word word =
    option_and_then (λ ls. given (is_genome_length (length ls)) ls) (each letter_of_byte word)

-- a genome of 8 to 8,192 letters, a byte for each
abbrev pub genome_field : Field (List Letter)
genome_field =
    record {
      text = map byte_of;
      read = λ word. genome_of_word word;
      Fits = λ ls. is_genome_length (length ls) ≡ true;
    }

-- a value that may be missing: a sign for none, such as `-`, or the text of the value
abbrev pub or_sign : {A : Type 0} → ℕ → Field A → Field (Option A)
or_sign sign f =
    record {
      text = λ value. option_map_or f.text value (sign ∷ []);
      read = λ word. if bytes_eq word (sign ∷ []) then Some None else option_map Some (f.read word);
      Fits = λ value. IfSome value f.Fits;
    }

-- a list of items: a dash if it is empty, else items parted by commas, as in `p4k,d9`
abbrev pub list_of : {A : Type 0} → Field A → Field (List A)
list_of f =
    record {
      text = λ items. comma_word (map f.text items);
      read = λ word. if bytes_eq word (code "-" ∷ []) then Some []
          else each f.read (slice_split (λ b. b == code ",") word);
      Fits = AllByRecursion f.Fits;
    }

-- the same field, but only for the values that pass a test
abbrev pub where_true : {A : Type 0} → (A → Bool) → Field A → Field A
where_true test f =
    record {
      text = f.text;
      read = λ word. option_and_then (λ a. given (test a) a) (f.read word);
      Fits = λ a. f.Fits a × (test a ≡ true);
    }
