-- The first piece of a rest.
use Rattle.std.proofs.Common.{◌≡◌, ℕ, suc, ◌+◌, ◌<◌, ◌≤◌, true, false, List, [], ◌∷◌, ◌++◌, length, get_or, take, drop, refl, sym, ap, ◌∙◌, arith, add-one, drop-cons, get_or-take, length-take, Option, None, inl, inr, eq-eqb}
use Rattle.std.specs.Prelude.{◌==◌, All}
use Rattle.log_lines.proofs.Prelude.{slice_split, onto_first, cases_Bool, read_last, take-append-drop, get_or_default, slice_split_at, slice_split_none}

-- the part byte stands at none of the first places
abbrev pub IsFree : ℕ → List ℕ → ℕ → Type 0
IsFree part rest n = (k : ℕ) → k < n → (get_or rest k 0 == part) ≡ false

-- the part byte is none of the first bytes
all_free : (part : ℕ) (rest : List ℕ) (n : ℕ) → IsFree part rest n
    → All (λ b. (b == part) ≡ false) (take n rest)
all_free part rest n free k d h =
    let low : k < n = omega (arith, length-take n rest) in
    let within : k < length rest = omega (arith, length-take n rest) in
    rw (get_or-take n rest k d low, get_or_default rest k d 0 within) (free k low)

-- the piece before the part byte
pub split_here : (part : ℕ) (rest : List ℕ) (n : ℕ) → n < length rest → IsFree part rest n
    → get_or rest n 0 ≡ part
    → slice_split (λ b. b == part) rest ≡ take n rest ∷ slice_split (λ b. b == part)
    (drop (n + 1) rest)
split_here part rest n h free is =
    let parts : rest ≡ take n rest ++ part ∷ drop (n + 1) rest =
    sym (take-append-drop n rest) ∙ ap (λ (l : List ℕ). take n rest ++ l) (drop-cons rest n 0 h)
    ∙ ap (λ (b : ℕ). take n rest ++ b ∷ drop (suc n) rest) is
    ∙ ap (λ (k : ℕ). take n rest ++ part ∷ drop k rest) (sym (add-one n)) in
    ap (λ (l : List ℕ). slice_split (λ b. b == part) l) parts
    ∙ slice_split_at (λ b. b == part) (take n rest) part (drop (n + 1) rest)
    (all_free part rest n free) (eq-eqb part part refl)

-- a rest without the part byte is one piece
pub split_end : (part : ℕ) (rest : List ℕ) → IsFree part rest (length rest)
    → slice_split (λ b. b == part) rest ≡ rest ∷ []
split_end part rest free =
    slice_split_none (λ b. b == part) rest (λ k d h. rw (get_or_default rest k d 0 h) (free k h))

-- two words are not the last one
onto_more : {A : Type 0} (read : List ℕ → Option A) (word : List ℕ) (b : ℕ) (parts : List (List ℕ))
    → read_last read (word ∷ onto_first b parts) ≡ None
onto_more read word b [] = refl
onto_more read word b (part ∷ parts) = refl

-- a word and a rest behind it are not the last word
pub last_more : {A : Type 0} (read : List ℕ → Option A) (word rest : List ℕ)
    → read_last read (word ∷ slice_split (λ b. b == 32) rest) ≡ None
last_more read word [] = refl
last_more read word (b ∷ bs) = elim (cases_Bool (b == 32)) [
  | inl is ↦ rw is refl
  | inr not ↦ rw not (onto_more read word b (slice_split (λ b. b == 32) bs))
]

-- what a byte is put before has a piece
onto_some : (b : ℕ) (parts : List (List ℕ)) → 0 < length (onto_first b parts)
onto_some b [] = omega arith
onto_some b (part ∷ parts) = omega arith

-- a text has a piece
pub split_some : (part : ℕ) (rest : List ℕ) → 0 < length (slice_split (λ b. b == part) rest)
split_some part [] = omega arith
split_some part (b ∷ bs) = elim (cases_Bool (b == part)) [
  | inl is ↦ rw is (omega arith)
  | inr not ↦ rw not (onto_some b (slice_split (λ b. b == part) bs))
]

-- no byte of the first places passes the test
pub free_of : (part : ℕ) (rest : List ℕ) (n : ℕ)
    → ((k : ℕ) → 0 ≤ k → k < n → ((get_or rest k 0 == part) ≡ true → ⊥)) → IsFree part rest n
free_of part rest n apart k low = elim (cases_Bool (get_or rest k 0 == part)) [
  | inl is ↦ absurd (apart k (omega arith) low is)
  | inr isnt ↦ isnt
]
