-- Items that are read word by word.
use Rattle.std.proofs.Common.{◌≡◌, ℕ, suc, ◌+◌, ◌-◌, ◌<◌, ◌≤◌, List, [], ◌∷◌, ◌++◌, length, get_or, take, drop, Option, Some, None, refl, sym, ap, ◌∙◌, arith, append_assoc, append-nil, drop-cons, add-one}
use Rattle.std.specs.Prelude.{option_map, option_and_then}
use Rattle.saved_lines.proofs.Prelude.{drop_all, take_all, Range, saved_head_line, AreWithin, if_last, with_item, read_several, read_within}
use Rattle.saved_lines.proofs.RangeLemmas.{read_are_within}

-- what is read behind some items
abbrev pub behind :
    {A : Type 0} → List A → Option (List A × List (List ℕ)) → Option (List A × List (List ℕ))
behind front found = option_map (λ p. (front ++ p.0, p.1)) found

-- one item more was read
behind_item : {A : Type 0} (front : List A) (item : A) (found : Option (List A × List (List ℕ)))
    → behind front (with_item found item) ≡ behind (front ++ item ∷ []) found
behind_item front item None = refl
behind_item {A = A} front item (Some p) =
    ap (λ (l : List A). let q : List A × List (List ℕ) = (l, p.1) in Some q)
    (sym (append_assoc front (item ∷ []) p.0))

-- ---- numbers within ranges

module _ (ranges : List Range) (front : List ℕ) (k : ℕ) (any : Range) (low : k < length ranges)
  where
    -- the range whose turn it is
    next_range : drop k ranges ≡ get_or ranges k any ∷ drop (k + 1) ranges
    next_range = drop-cons ranges k any low
        ∙ ap (λ (n : ℕ). get_or ranges k any ∷ drop n ranges) (sym (add-one k))

    -- no word is left
    pub number_ends : behind front (read_within (drop k ranges) []) ≡ None
    number_ends = rw next_range

-- ---- so many items of one field

module _ {A : Type 0} (read : List ℕ → Option A) (front : List A) (k count : ℕ) (low : k < count)
  where
    -- one item fewer is to come
    one_less : count - k ≡ suc (count - (k + 1))
    one_less = omega (arith, low)

    -- the next item is read
    pub item_on : (word : List ℕ) (words : List (List ℕ)) (item : A) → read word ≡ Some item
        → behind front (read_several read (count - k) (word ∷ words))
        ≡ behind (front ++ item ∷ []) (read_several read (count - (k + 1)) words)
    item_on word words item is = rw (one_less, is)
        (behind_item front item (read_several read (count - (k + 1)) words))

-- ---- the end

-- all numbers were read, so each is within its range
pub all_within : (ranges : List Range) (ns : List ℕ) (k : ℕ) (words left : List (List ℕ))
    → length ranges ≤ k → length ns ≤ k
    → behind (take k ns) (read_within (drop k ranges) left) ≡ read_within ranges words
    → AreWithin ranges ns
all_within ranges ns k words left enough long is =
    let none : drop k ranges ≡ [] = drop_all k ranges enough in
    let whole : take k ns ++ [] ≡ ns = append-nil (take k ns) ∙ take_all k ns long in
    read_are_within ranges words left ns (sym (rw (none, whole) at is))

-- words are left behind the numbers of a head
pub more_left : (found : Option (List ℕ × List (List ℕ))) (ns : List ℕ) (words : List (List ℕ))
    → Some (ns, words) ≡ found → 0 < length words
    → None ≡ option_and_then saved_head_line (option_and_then if_last found)
more_left found ns [] is some = absurd (omega (arith, some))
more_left found ns (word ∷ words) is some = rw (← is)
