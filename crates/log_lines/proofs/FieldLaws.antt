-- What is written is read again, and what is read was written so.
use Rattle.std.proofs.Common.{◌≡◌, ◌≢◌, ℕ, ◌<◌, ◌≤◌, ◌^◌, Bool, true, false, cond, List, [], ◌∷◌, ◌++◌, map, length, Option, Some, None, refl, sym, ap, ◌∙◌, arith, inl, inr, ◌⊎◌, eq-eqb, decimal}
use Rattle.std.specs.Prelude.{option_map, ◌==◌}
use Rattle.log_lines.proofs.Prelude.{bytes_eq, slice_split, AllByRecursion, nat_tests, common_steps, cond_some, Letter, byte_of, letter_of_byte, is_genome_length, OneNumber, Field, given, number, genome_of_word, genome_field, or_sign, each, where_true, Row, read_last, last, read_both, ◌◂◌, found_again, some_map, some_then}
use Rattle.std.proofs.lemmas.Slice.Eq.{bytes_eq-Decides}
use Rattle.log_lines.proofs.LetterLemmas.{byte_of_letter, letter_above}

-- each byte is above c
abbrev pub Above : ℕ → List ℕ → Type 0
Above c word = AllByRecursion (λ b. c < b) word

-- what is written of a field is read again, what is read was written so, and each byte is above c
pub record IsField {A : Type 0} (c : ℕ) (f : Field A) : Type 0 where
  pub again : (a : A) → f.Fits a → f.read (f.text a) ≡ Some a
  pub takes : (word : List ℕ) (a : A) → f.read word ≡ Some a → (f.text a ≡ word) × f.Fits a
  pub plain : (a : A) → f.Fits a → Above c (f.text a)

-- the same of the words of a row
pub record IsRow {A : Type 0} (c : ℕ) (r : Row A) : Type 0 where
  pub again : (a : A) → r.Fits a → r.read (r.texts a) ≡ Some a
  pub takes : (words : List (List ℕ)) (a : A) → r.read words ≡ Some a → (r.texts a ≡ words)
      × r.Fits a
  pub plain : (a : A) → r.Fits a → AllByRecursion (Above c) (r.texts a)

-- ---- bytes and tests

-- a lower bound on each byte
pub above_lower : (c d : ℕ) (word : List ℕ) → c ≤ d → Above d word → Above c word
above_lower c d [] h all = tt
above_lower c d (b ∷ bs) h all = (omega (arith, all.0, h), above_lower c d bs h all.1)

-- two texts, one behind the other
pub above_append : (c : ℕ) (a b : List ℕ) → Above c a → Above c b → Above c (a ++ b)
above_append c [] b p q = q
above_append c (x ∷ a) b p q = (p.0, above_append c a b p.1 q)

-- different texts fail the test
pub not_equal : (a b : List ℕ) → a ≢ b → bytes_eq a b ≡ false
not_equal a b ne = grind (arith, ne, bytes_eq-Decides a b)

-- texts that pass the test are the same
pub same_bytes : (a b : List ℕ) → bytes_eq a b ≡ true → a ≡ b
same_bytes a b t = grind (arith, t, bytes_eq-Decides a b)

-- a word without the byte is one piece
pub split_one : (c : ℕ) (word : List ℕ) → Above c word → slice_split (λ b. b == c) word ≡ word ∷ []
split_one c [] all = refl
split_one c (b ∷ bs) all = grind (arith, common_steps, nat_tests, all.0, split_one c bs all.1)

-- the piece before the first such byte
pub split_first : (c : ℕ) (word rest : List ℕ) → Above c word
    → slice_split (λ b. b == c) (word ++ c ∷ rest) ≡ word ∷ slice_split (λ b. b == c) rest
split_first c [] rest all = rw (eq-eqb c c refl) refl
split_first c (b ∷ bs) rest all =
    grind (arith, common_steps, nat_tests, all.0, split_first c bs rest all.1)

-- ---- numbers

-- digits are above a comma
above_digits : (ds : List ℕ) → AllByRecursion (λ b. (48 ≤ b) × (b ≤ 57)) ds → Above 44 ds
above_digits [] all = tt
above_digits (d ∷ ds) all = (omega (arith, all.0.0), above_digits ds all.1)

-- a number within a range below 2 ^ 64
pub number_law : (numbers : OneNumber) (least greatest : ℕ) → greatest < 2 ^ 64
    → IsField 44 (number least greatest)
number_law numbers least greatest wide = record {
  again = λ n fits. numbers.again least greatest n wide fits.0 fits.1;
  takes = λ word n is. let t = numbers.takes least greatest n word wide is in (t.0, (t.1, t.2));
  plain = λ n fits. above_digits (decimal n) (numbers.digits n (omega (arith, fits.1, wide)));
}

-- ---- options

-- what a choice gives, one of its two sides gives
pub chosen : {A : Type 0} (b : Bool) (x y : Option A) (a : A) → cond b x y ≡ Some a
    → ((b ≡ true) × (x ≡ Some a)) ⊎ ((b ≡ false) × (y ≡ Some a))
chosen true x y a is = inl (refl, is)
chosen false x y a is = inr (refl, is)

-- ---- each item of a list

module _ {X A : Type 0} (text : A → X) (read : X → Option A) (Fits : A → Type 0) where
  -- where each item is read again, the list is
  pub each_again : ((a : A) → Fits a → read (text a) ≡ Some a) → (items : List A)
      → AllByRecursion Fits items → each read (map text items) ≡ Some items
  each_again again [] fits = refl
  each_again again (a ∷ items) fits = rw (again a fits.0, each_again again items fits.1) refl

  -- where what is read as an item was written so, a list was
  pub each_takes : ((x : X) (a : A) → read x ≡ Some a → (text a ≡ x) × Fits a) → (xs : List X)
      (items : List A) → each read xs ≡ Some items
      → (map text items ≡ xs) × AllByRecursion Fits items
  each_takes takes [] items is = let e : [] ≡ items = cc in
      rw (← e) (refl, tt)
  each_takes takes (x ∷ xs) items is =
      let first = some_then (λ a. option_map (λ others. a ∷ others) (each read xs))
      (read x) items is in
      let second = some_map (λ others. first.0 ∷ others) (each read xs) items first.2 in
      let a = takes x first.0 first.1 in
      let b = each_takes takes xs second.0 second.1 in
      rw (← second.2) (rw (a.0, b.0) refl, (a.1, b.1))

-- ---- letters

-- any letter has a byte
abbrev IsAny : Letter → Type 0
IsAny letter = Unit {0}

-- each letter of a list has a byte
all_any : (ls : List Letter) → AllByRecursion IsAny ls
all_any [] = tt
all_any (l ∷ ls) = (tt, all_any ls)

-- a letter is read again, and was written so
pub letters_again : (ls : List Letter) → each letter_of_byte (map byte_of ls) ≡ Some ls
letters_again ls =
    each_again byte_of letter_of_byte IsAny (λ l any. (found_again l).by_byte) ls (all_any ls)

-- what is read as letters is their bytes
pub letters_taken : (word : List ℕ) (ls : List Letter) → each letter_of_byte word ≡ Some ls
    → map byte_of ls ≡ word
letters_taken word ls is =
    (each_takes byte_of letter_of_byte IsAny (λ b l found. (byte_of_letter b l found, tt)) word ls
    is).0

-- letters are above a comma
pub above_letters : (ls : List Letter) → Above 44 (map byte_of ls)
above_letters [] = tt
above_letters (l ∷ ls) = (letter_above l, above_letters ls)

-- a genome is read again
letters_law_again : (ls : List Letter) → is_genome_length (length ls) ≡ true
    → genome_of_word (map byte_of ls) ≡ Some ls
unfolding genome_of_word
letters_law_again ls fits = rw (letters_again ls, fits) refl

-- what is read as a genome is its letters
letters_law_takes : (word : List ℕ) (ls : List Letter) → genome_of_word word ≡ Some ls
    → (map byte_of ls ≡ word) × (is_genome_length (length ls) ≡ true)
unfolding genome_of_word
letters_law_takes word ls is =
    let got =
    some_then (λ a. given (is_genome_length (length a)) a) (each letter_of_byte word) ls is in
    let passed = cond_some (is_genome_length (length got.0)) got.0 ls got.2 in
    rw (← passed.1) (letters_taken word got.0 got.1, passed.0)

-- the letters of a genome
pub letters_law : IsField 44 genome_field
letters_law = record {
  again = letters_law_again;
  takes = letters_law_takes;
  plain = λ ls fits. above_letters ls;
}

-- ---- combinations

module _ {A : Type 0} {f : Field A} {c : ℕ} (law : IsField c f) where
  -- a lower bound
  pub field_lower : (b : ℕ) → b ≤ c → IsField b f
  field_lower b h =
      record {
        again = law.again;
        takes = law.takes;
        plain = λ a fits. above_lower b c (f.text a) h (law.plain a fits);
      }

  -- a word that is not read is no text
  pub some_text : (word : List ℕ) → f.read word ≡ None → (a : A) → f.Fits a → f.text a ≢ word
  some_text word none a fits is =
      let e : f.read word ≡ Some a = ap f.read (sym is) ∙ law.again a fits in absurd cc

  -- ---- a sign for none

  module _ (sign : ℕ) (none : f.read (sign ∷ []) ≡ None) where
    -- a sign or a value is read again
    or_again : (a : Option A) → (or_sign sign f).Fits a
        → (or_sign sign f).read ((or_sign sign f).text a) ≡ Some a
    or_again None fits = let t : bytes_eq (sign ∷ []) (sign ∷ []) ≡ true =
        grind (arith, bytes_eq-Decides (sign ∷ []) (sign ∷ [])) in rw t refl
    or_again (Some a) fits =
        let t = not_equal (f.text a) (sign ∷ []) (some_text (sign ∷ []) none a fits) in
        rw (t, law.again a fits) refl

    -- what is read as a sign or a value was written so
    or_takes : (word : List ℕ) (a : Option A) → (or_sign sign f).read word ≡ Some a
        → ((or_sign sign f).text a ≡ word) × (or_sign sign f).Fits a
    or_takes word a is = elim (chosen (bytes_eq word (sign ∷ [])) _ _ a is) [
      | inl l ↦
          let e : None ≡ a = cc in rw (← e) (sym (same_bytes word (sign ∷ []) l.0), tt)
      | inr r ↦
          let some = some_map Some (f.read word) a r.1 in
          rw (← some.2) (law.takes word some.0 some.1)
    ]

    -- a sign or a value has no byte up to the bound
    or_plain : c < sign → (a : Option A) → (or_sign sign f).Fits a
        → Above c ((or_sign sign f).text a)
    or_plain low None fits = (low, tt)
    or_plain low (Some a) fits = law.plain a fits

    -- a sign that is not read as a value stands for none
    pub or_sign_law : c < sign → IsField c (or_sign sign f)
    or_sign_law low = record { again = or_again; takes = or_takes; plain = or_plain low }

  -- ---- the values that pass a test

  -- the values of a field that pass a test
  pub where_law : (test : A → Bool) → IsField c (where_true test f)
  where_law test = record {
    again = λ a fits. rw (law.again a fits.0, fits.1) refl;
    takes = λ word a is.
        let got = some_then (λ x. given (test x) x) (f.read word) a is in
        let passed = cond_some (test got.0) got.0 a got.2 in
        let t = law.takes word got.0 got.1 in rw (← passed.1) (t.0, (t.1, passed.0));
    plain = λ a fits. law.plain a fits.0;
  }

  -- ---- rows

  -- what is read as the last word was written so
  last_takes : (words : List (List ℕ)) (a : A) → read_last f.read words ≡ Some a
      → ((last f).texts a ≡ words) × f.Fits a
  last_takes (word ∷ []) a is = let t = law.takes word a is in (rw t.0 refl, t.1)
  last_takes _ a is = absurd cc

  -- a field that ends a row
  pub last_law : IsRow c (last f)
  last_law = record {
    again = λ a fits. law.again a fits;
    takes = last_takes;
    plain = λ a fits. (law.plain a fits, tt);
  }

  module _ {B : Type 0} {r : Row B} (others : IsRow c r) where
    -- what is read as a field and a row was written so
    both_takes : (words : List (List ℕ)) (p : A × B) → read_both f.read r.read words ≡ Some p
        → ((f ◂ r).texts p ≡ words) × (f ◂ r).Fits p
    both_takes [] p is = absurd cc
    both_takes (word ∷ words) p is =
        let first = some_then (λ a. option_map (λ b. (a, b)) (r.read words)) (f.read word) p is in
        let second = some_map (λ b. (first.0, b)) (r.read words) p first.2 in
        let a = law.takes word first.0 first.1 in
        let b = others.takes words second.0 second.1 in
        rw (← second.2) (rw (a.0, b.0) refl, (a.1, b.1))

    -- a field, and the row behind it
    pub row_law : IsRow c (f ◂ r)
    row_law = record {
      again = λ p fits. rw (law.again p.0 fits.0, others.again p.1 fits.1) refl;
      takes = both_takes;
      plain = λ p fits. (law.plain p.0 fits.0, others.plain p.1 fits.1);
    }
