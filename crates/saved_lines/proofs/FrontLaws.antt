-- Words in front of a row: what is written is read again, and what is read was written so.
use Rattle.std.proofs.Common.{◌≡◌, ℕ, zero, suc, ◌<◌, ◌≤◌, ◌^◌, List, [], ◌∷◌, ◌++◌, map, length, Option, Some, None, refl, sym, ap, subst, ◌∙◌, arith, decimal, append-nil}
use Rattle.std.specs.Prelude.{option_and_then}
use Rattle.saved_lines.proofs.Prelude.{AllByRecursion, some_pair_parts, number_of, OneNumber, Field, Row, Above, IsField, IsRow, number_law, above_lower, some_map, some_then, Range, Front, read_several, several, read_within, AreWithin, within, if_last, whole, ◌◁◌}
use Rattle.saved_lines.proofs.RangeLemmas.{read_are_within}
use Rattle.log_lines.proofs.ListLaws.{each_plain}
use Rattle.genome.proofs.ListLemmas.{all_append}

-- what is written is read again, and what is read was written so, of bytes above c
pub record IsFront {A : Type 0} (c : ℕ) (f : Front A) : Type 0 where
  pub again : (a : A) (words : List (List ℕ)) → f.Fits a
      → f.read (f.texts a ++ words) ≡ Some (a, words)
  pub takes : (words left : List (List ℕ)) (a : A) → f.read words ≡ Some (a, left)
      → (f.texts a ++ left ≡ words) × f.Fits a
  pub plain : (a : A) → f.Fits a → AllByRecursion (Above c) (f.texts a)

-- bytes above d are above what is lower
all_lower : (c d : ℕ) (words : List (List ℕ)) → c ≤ d → AllByRecursion (Above d) words
    → AllByRecursion (Above c) words
all_lower c d [] h all = tt
all_lower c d (word ∷ words) h all =
    (above_lower c d word h all.0, all_lower c d words h all.1)

-- the same above a lower byte
pub front_lower : {A : Type 0} (f : Front A) (c d : ℕ) → c ≤ d → IsFront d f → IsFront c f
front_lower f c d h law =
    record {
      again = law.again;
      takes = law.takes;
      plain = λ a fits. all_lower c d (f.texts a) h (law.plain a fits);
    }

-- ---- so many words of one field

module _ {A : Type 0} (f : Field A) (c : ℕ) (law : IsField c f) where
  -- items that are written are read again
  several_again : (count : ℕ) (items : List A) (words : List (List ℕ)) → length items ≡ count
      → AllByRecursion f.Fits items
      → read_several f.read count (map f.text items ++ words) ≡ Some (items, words)
  several_again zero [] words long fits = refl
  several_again zero (a ∷ items) words long fits = absurd (omega (arith, long))
  several_again (suc count) [] words long fits = absurd (omega (arith, long))
  several_again (suc count) (a ∷ items) words long fits =
      rw (law.again a fits.0, several_again count items words (omega (arith, long)) fits.1) refl

  -- these items were read
  abbrev Taken : ℕ → List (List ℕ) → List A → List (List ℕ) → Type 0
  Taken count words items left =
      (map f.text items ++ left ≡ words) × ((length items ≡ count) × AllByRecursion f.Fits items)

  -- items that are read were written so
  several_takes : (count : ℕ) (words left : List (List ℕ)) (items : List A)
      → read_several f.read count words ≡ Some (items, left) → Taken count words items left
  several_takes zero words left items is =
      let parts = some_pair_parts [] items words left is in
      rw (sym parts.0, parts.1) (refl, (refl, tt))
  several_takes (suc count) [] left items is = absurd cc
  several_takes (suc count) (word ∷ words) left items is =
      let first = some_then _ (f.read word) (items, left) is in
      let second = some_map _ (read_several f.read count words) (items, left) first.2 in
      let a = law.takes word first.0 first.1 in
      let others = several_takes count words second.0.1 second.0.0 second.1 in
      subst (λ (p : List A × List (List ℕ)). Taken (suc count) (word ∷ words) p.0 p.1) second.2
      (rw (a.0, others.0) refl, (ap suc others.1.0, (a.1, others.1.1)))

  -- so many words of a field
  pub several_law : (count : ℕ) → IsFront c (several count f)
  several_law count = record {
    again = λ items words fits. several_again count items words fits.0 fits.1;
    takes = λ words left items is. several_takes count words left items is;
    plain = λ items fits. each_plain law items fits.1;
  }

-- ---- a number for each range

module _ (numbers : OneNumber) where
  -- each number has fewer than 64 bits
  abbrev pub AreSmall : List Range → Type 0
  AreSmall ranges = AllByRecursion (λ range. range.greatest < 2 ^ 64) ranges

  -- numbers that are written are read again
  within_again : (ranges : List Range) (ns : List ℕ) (words : List (List ℕ)) → AreSmall ranges
      → AreWithin ranges ns
      → read_within ranges (map (λ n. decimal n) ns ++ words) ≡ Some (ns, words)
  within_again [] [] words small fits = refl
  within_again [] (n ∷ ns) words small fits = absurd fits
  within_again (range ∷ ranges) [] words small fits = absurd fits
  within_again (range ∷ ranges) (n ∷ ns) words small fits =
      let one = numbers.again range.least range.greatest n small.0 fits.0 fits.1 in
      rw (one, within_again ranges ns words small.1 fits.2) refl

  -- numbers that are read were written so
  within_takes : (ranges : List Range) (words left : List (List ℕ)) (ns : List ℕ)
      → AreSmall ranges → read_within ranges words ≡ Some (ns, left)
      → map (λ n. decimal n) ns ++ left ≡ words
  within_takes [] words left ns small is =
      let parts = some_pair_parts [] ns words left is in rw (sym parts.0, parts.1) refl
  within_takes (range ∷ ranges) [] left ns small is = absurd cc
  within_takes (range ∷ ranges) (word ∷ words) left ns small is =
      let first = some_then _ (number_of range.least range.greatest word) (ns, left) is in
      let second = some_map _ (read_within ranges words) (ns, left) first.2 in
      let one = numbers.takes range.least range.greatest first.0 word small.0 first.1 in
      let others = within_takes ranges words second.0.1 second.0.0 small.1 second.1 in
      subst (λ (p : List ℕ × List (List ℕ)). map (λ n. decimal n) p.0 ++ p.1 ≡ word ∷ words)
      second.2 (rw (one.0, others) refl)

  -- their bytes
  within_plain : (ranges : List Range) (ns : List ℕ) → AreSmall ranges → AreWithin ranges ns
      → AllByRecursion (Above 44) (map (λ n. decimal n) ns)
  within_plain [] [] small fits = tt
  within_plain [] (n ∷ ns) small fits = absurd fits
  within_plain (range ∷ ranges) [] small fits = absurd fits
  within_plain (range ∷ ranges) (n ∷ ns) small fits = (
    (number_law numbers range.least range.greatest small.0).plain n (fits.0, fits.1),
    within_plain ranges ns small.1 fits.2,
  )

  -- a number for each range
  pub within_law : (ranges : List Range) → AreSmall ranges → IsFront 44 (within ranges)
  within_law ranges small = record {
    again = λ ns words fits. within_again ranges ns words small fits;
    takes = λ words left ns is.
        (within_takes ranges words left ns small is, read_are_within ranges words left ns is);
    plain = λ ns fits. within_plain ranges ns small fits;
  }

-- ---- a row with a front

module _ {A : Type 0} (f : Front A) (c : ℕ) (law : IsFront c f) where
  -- no word is left
  last_none : (o : Option (A × List (List ℕ))) (a : A) → option_and_then if_last o ≡ Some a
      → o ≡ Some (a, [])
  last_none None a is = absurd cc
  last_none (Some (b, [])) a is =
      let same : b ≡ a = cc in ap (λ (x : A). let p : A × List (List ℕ) = (x, []) in Some p) same
  last_none (Some (b, word ∷ words)) a is = absurd cc

  -- words that end the row
  pub whole_law : IsRow c (whole f)
  whole_law = record {
    again = λ a fits.
        ap (λ (ws : List (List ℕ)). option_and_then if_last (f.read ws))
        (sym (append-nil (f.texts a))) ∙ ap (option_and_then if_last) (law.again a [] fits);
    takes = λ words a is.
        let t = law.takes words [] a (last_none (f.read words) a is) in
        (sym (append-nil (f.texts a)) ∙ t.0, t.1);
    plain = λ a fits. law.plain a fits;
  }

  module _ {B : Type 0} (r : Row B) (others : IsRow c r) where
    -- what is read was written so
    front_takes : (words : List (List ℕ)) (p : A × B) → (f ◁ r).read words ≡ Some p
        → ((f ◁ r).texts p ≡ words) × (f ◁ r).Fits p
    front_takes words p is =
        let first = some_then _ (f.read words) p is in
        let second = some_map _ (r.read first.0.1) p first.2 in
        let a = law.takes words first.0.1 first.0.0 first.1 in
        let b = others.takes first.0.1 second.0 second.1 in
        subst (λ (q : A × B). ((f ◁ r).texts q ≡ words) × (f ◁ r).Fits q) second.2
        (rw b.0 a.0, (a.1, b.1))

    -- words in front of a row
    pub front_law : IsRow c (f ◁ r)
    front_law = record {
      again = λ p fits.
          let first = law.again p.0 (r.texts p.1) fits.0 in
          rw (first, others.again p.1 fits.1) refl;
      takes = front_takes;
      plain = λ p fits.
          all_append (Above c) (f.texts p.0) (r.texts p.1) (law.plain p.0 fits.0)
          (others.plain p.1 fits.1);
    }
