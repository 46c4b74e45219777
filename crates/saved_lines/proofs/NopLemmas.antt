-- Nops that are read letter by letter.
use Rattle.std.proofs.Common.{◌≡◌, ℕ, ◌+◌, ◌<◌, ◌⊎◌, true, false, List, [], ◌∷◌, ◌++◌, length, get_or, drop, Option, Some, None, refl, sym, ap, ◌∙◌, arith, drop-cons, add-one}
use Rattle.std.specs.Prelude.{◌&&◌, nat_lt, nat_le, option_and_then, option_map}
use Rattle.saved_lines.proofs.Prelude.{list_all, and_parts, nat_tests, Letter, letter_of_byte, is_nop, each, given, each_length, map_more, are_nops, some_nops}

-- from one to ten nops, or none
abbrev if_nops : Option (List Letter) → Option (List Letter)
if_nops found = option_and_then (λ letters. given (are_nops letters) letters) found

-- the nops that letters behind some letters make
abbrev pub nops_behind : List Letter → List ℕ → Option (List Letter)
nops_behind front word =
    if_nops (option_map (λ others. front ++ others) (each letter_of_byte word))

-- one nop more
nop_more : (front : List Letter) (b : ℕ) (bs : List ℕ) (l : Letter) → letter_of_byte b ≡ Some l
    → nops_behind front (b ∷ bs) ≡ nops_behind (front ++ l ∷ []) bs
nop_more front b bs l is = rw is (ap if_nops (map_more front l (each letter_of_byte bs)))

module _ (word : List ℕ) (front : List Letter) (k : ℕ) (low : k < length word) where
  -- the byte whose turn it is
  next_byte : drop k word ≡ get_or word k 0 ∷ drop (k + 1) word
  next_byte = drop-cons word k 0 low
      ∙ ap (λ (n : ℕ). get_or word k 0 ∷ drop n word) (sym (add-one k))

  -- the byte at a place is read
  pub nop_on : (l : Letter) → letter_of_byte (get_or word k 0) ≡ Some l
      → nops_behind front (drop k word) ≡ nops_behind (front ++ l ∷ []) (drop (k + 1) word)
  nop_on l is = ap (nops_behind front) next_byte
      ∙ nop_more front (get_or word k 0) (drop (k + 1) word) l is

-- ---- how many

-- another length gives none
other_length : (n : ℕ) (o : Option (List Letter)) → (nat_lt 0 n && nat_le n 10) ≡ false
    → ((ls : List Letter) → o ≡ Some ls → length ls ≡ n) → if_nops o ≡ None
other_length n None bad long = refl
other_length n (Some ls) bad long =
    rw (long ls refl, bad)

-- no letters, or more than ten
pub too_few_or_many : (word : List ℕ) → (length word ≡ 0) ⊎ (10 < length word)
    → some_nops word ≡ None
too_few_or_many word bad =
    let other : (nat_lt 0 (length word) && nat_le (length word) 10) ≡ false =
    grind (arith, nat_tests, bad) in
    other_length (length word) (each letter_of_byte word) other
    (λ ls is. each_length letter_of_byte word ls is)

-- ---- what the template keeps

-- one nop more
pub all_more : (front : List Letter) (l : Letter) → list_all is_nop front ≡ true → is_nop l ≡ true
    → list_all is_nop (front ++ l ∷ []) ≡ true
all_more [] l all is = rw is refl
all_more (a ∷ front) l all is =
    let parts = and_parts (is_nop a) (list_all is_nop front) all in
    rw (parts.0, all_more front l parts.1 is) refl
