-- Letters are found again in their words.
use Rattle.std.proofs.Common.{◌≡◌, refl, sym, arith, inl, inr, ℕ, zero, suc, ◌+◌, ◌-◌, ◌*◌, ◌/◌, ◌%◌, ◌^◌, ◌<◌, Some, List, [], ◌∷◌, ◌++◌, fold, nat_lt, append-nil, append_assoc, eq-eqb}
use Rattle.genotype_bank.proofs.Prelude.{pow-suc, cases_Bool, ltb-true, ne_eqb, flat_map-append, Letter, index_of, letter_at, Packing, digit_of, full_word, letters_within, packed, packing, unpacked, with_letter, words_in}
use Rattle.std.proofs.lemmas.Nat.{div_below, div-mul-add, mod-mul-add}
use Rattle.instruction_set.specs.declared.letter.Letter.TheVariants.{NopA}

-- a letter has a row of the table, and is found there
record HasRow (letter : Letter) : Type 0 where
  row : index_of letter < 26
  found : letter_at (index_of letter) ≡ Some letter

-- each letter does
has_row : (letter : Letter) → HasRow letter
unfolding letter_at
has_row NopA = record { row = omega arith; found = refl }
has_row _ = record { row = omega arith; found = refl }

-- the word 0 has no letters
letters-none : (most : ℕ) → letters_within most 0 ≡ []
unfolding letters_within
letters-none zero = refl
letters-none (suc most) = refl

-- where no letters are asked for, none are appended
pub letters-no_more : (most word : ℕ) (before : List Letter) → most ≡ 0
    → before ≡ before ++ letters_within most word
unfolding letters_within
letters-no_more most word before none = rw none (sym (append-nil before))

-- the word 0 has none
pub letters-empty : (most word : ℕ) (before : List Letter) → word ≡ 0
    → before ≡ before ++ letters_within most word
letters-empty most word before empty = rw (empty, letters-none most) (sym (append-nil before))

-- another word has its lowest digit as the last letter, which is pushed behind the others
pub letters-pushed : (most word : ℕ) (before : List Letter) (letter : Letter) → (most ≡ 0 → ⊥)
    → (word ≡ 0 → ⊥) → letter_at (word % 27 - 1) ≡ Some letter
    → (before ++ letters_within (most - 1) (word / 27)) ++ letter ∷ []
    ≡ before ++ letters_within most word
unfolding letters_within
letters-pushed zero word before letter asked some is = absurd (asked refl)
letters-pushed (suc most) word before letter asked some is =
    let less : suc most - 1 ≡ most = omega arith in
    rw (less, append_assoc, ne_eqb word 0 some, is)

-- a word of few letters has no more where more are asked for
letters-few : (most word : ℕ) → word < 27 ^ most
    → letters_within (suc most) word ≡ letters_within most word
unfolding letters_within
letters-few zero word small = rw (eq-eqb word 0 (omega (arith, small)))
letters-few (suc most) word small =
    let high : word / 27 < 27 ^ most =
    div_below word 27 (27 ^ most) (omega arith) (omega (arith, small, pow-suc 27 most)) in
    rw (letters-few most (word / 27) high)

pub ruleset letters_of_a_word = (letters-no_more, letters-empty, letters-pushed)

-- a letter more stands behind the others
letters-more : (most word : ℕ) (letter : Letter) → word < 27 ^ most
    → letters_within (suc most) (word * 27 + digit_of letter)
    ≡ letters_within (suc most) word ++ letter ∷ []
unfolding letters_within
letters-more most word letter small =
    let has = has_row letter in
    let below : digit_of letter < 27 = omega (arith, has.row) in
    let lowered : index_of letter + 1 - 1 ≡ index_of letter = omega arith in
    let some = ne_eqb (word * 27 + digit_of letter) 0 (λ same. omega (arith, same)) in
    rw (letters-few most word small) (rw (
      some,
      div-mul-add word 27 (digit_of letter) below,
      mod-mul-add word 27 (digit_of letter) below,
      lowered,
      has.found,
    ))

-- the letter of a word with one letter
letters-one : (letter : Letter) → letters_within 13 (digit_of letter) ≡ letter ∷ []
letters-one letter =
    let as_more : index_of letter + 1 ≡ 0 * 27 + (index_of letter + 1) = omega arith in
    rw (as_more, letters-more 12 0 letter (omega arith), letters-none 13)

-- the letters of the last word stand behind those of the others
unpacked-last : (full : List ℕ) (last : ℕ)
    → unpacked (full ++ last ∷ []) ≡ unpacked full ++ letters_within 13 last
unpacked-last full last = simp (flat_map-append, append-nil)

-- a letter more is unpacked behind the others
unpacked-more : (full : List ℕ) (last : ℕ) (letter : Letter)
    → unpacked (words_in (with_letter (packing full last) letter))
    ≡ unpacked (full ++ last ∷ []) ++ letter ∷ []
unpacked-more full last letter = elim (cases_Bool (nat_lt last full_word)) [
  | inl room ↦
      let small : last < 27 ^ 12 = ltb-true last full_word room in
      let e = unpacked-last full (last * 27 + digit_of letter) in
      rw (room, e, letters-more 12 last letter small, unpacked-last full last)
      (sym (append_assoc (unpacked full) (letters_within 13 last) (letter ∷ [])))
  | inr none ↦ rw (none, unpacked-last (full ++ last ∷ []) (digit_of letter), letters-one letter)
]

-- letters are unpacked behind the others
unpacked-all : (so_far : Packing) (letters : List Letter)
    → unpacked (words_in (fold with_letter so_far letters))
    ≡ unpacked (words_in so_far) ++ letters
unpacked-all so_far [] = sym (append-nil (unpacked (words_in so_far)))
unpacked-all so_far (letter ∷ letters) =
    let rest = unpacked-all (with_letter so_far letter) letters in
    rw (rest, unpacked-more so_far.full so_far.last letter)
    (append_assoc (unpacked (words_in so_far)) (letter ∷ []) letters)

-- the words of letters have these letters
pub has_letters : (letters : List Letter) (words : List ℕ) → words ≡ packed letters
    → unpacked words ≡ letters
has_letters letters words are = rw (are, unpacked-all (packing [] 0) letters, letters-none 13)
