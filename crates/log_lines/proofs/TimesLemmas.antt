-- Reading as many numbers as end a line, one by one.
use Rattle.std.proofs.Common.{◌≡◌, ℕ, ◌+◌, ◌<◌, cond, List, [], ◌∷◌, ◌++◌, length, take, set, Option, Some, None, refl, sym, ap, arith, append_assoc, append-nil, length-append, length-set, eq-eqb}
use Rattle.std.specs.Prelude.{option_map, ◌==◌}
use Rattle.log_lines.proofs.Prelude.{nat_tests, common_steps, take_more, take-set-le, get_or-set_same, some_pair_parts, each, read_both, read_last, read_first}

-- some words were read, as these numbers, and the others are left
pub record HasRead (read : List ℕ → Option ℕ) (words left : List (List ℕ)) (front : List ℕ) : Type 0
  where
    pub count : length words ≡ length front + length left
    pub values : each read words ≡ option_map (λ others. front ++ others) (each read left)

-- so many words read, or none
abbrev pub read_times : (List ℕ → Option ℕ) → ℕ → List (List ℕ) → Option (List ℕ)
read_times read n words = cond (length words == n) (each read words) None

-- nothing in front
pub same_map : {A : Type 0} (o : Option (List A)) → o ≡ option_map (λ others. [] ++ others) o
same_map o = grind (arith, common_steps)

-- one item more in front
pub map_more : {A : Type 0} (front : List A) (a : A) (o : Option (List A))
    → option_map (λ others. front ++ others) (option_map (λ others. a ∷ others) o)
    ≡ option_map (λ others. (front ++ a ∷ []) ++ others) o
map_more front a o = grind (arith, common_steps, append_assoc front (a ∷ []))

-- one item more is read
pub each_more : {X A : Type 0} (read : X → Option A) (front : List A) (x : X) (a : A) (xs : List X)
    (all : Option (List A)) → Some a ≡ read x
    → option_map (λ others. front ++ others) (each read (x ∷ xs)) ≡ all
    → option_map (λ others. (front ++ a ∷ []) ++ others) (each read xs) ≡ all
each_more read front x a xs all is so = rw (← is, map_more front a (each read xs)) at so

-- an item that is not readable
pub each_none : {X A : Type 0} (read : X → Option A) (front : List A) (x : X) (xs : List X)
    (all : Option (List A)) → None ≡ read x
    → option_map (λ others. front ++ others) (each read (x ∷ xs)) ≡ all → None ≡ all
each_none read front x xs all is so = rw (← is) at so

-- the front of a list, an item of which was set
pub front_more : {A : Type 0} (items : List A) (k : ℕ) (item : A) → k < length items
    → take (k + 1) (set items k item) ≡ take k items ++ item ∷ []
front_more items k item low =
    let within : k < length (set items k item) = omega (arith, low, length-set items k item) in
    rw (
      take_more (set items k item) k item within,
      take-set-le k items k item (omega arith),
      get_or-set_same items k item item low,
    )

-- a first word that is read, and the words behind it
same_first : {A : Type 0} (words behind : List (List ℕ)) (a : A) (o : Option A)
    → ◌≡◌ {A = Option (A × List (List ℕ))} (Some (a, behind)) (option_map (λ b. (b, words)) o)
    → (words ≡ behind) × (o ≡ Some a)
same_first words behind a None is = absurd cc
same_first words behind a (Some b) is =
    let parts = some_pair_parts a b behind words is in (sym parts.1, ap Some (sym parts.0))

-- the first word of what is read
pub first_parts : {A : Type 0} (read : List ℕ → Option A) (left behind : List (List ℕ)) (a : A)
    → Some (a, behind) ≡ read_first read left → (word : List ℕ) × (left ≡ word ∷ behind)
    × (read word ≡ Some a)
first_parts read [] behind a is = absurd cc
first_parts read (word ∷ words) behind a is =
    let same = same_first words behind a (read word) is in
    (word, rw same.0, same.1)

-- what is left behind the first word is shorter
pub first_shorter : {A : Type 0} (read : List ℕ → Option A) (left behind : List (List ℕ)) (a : A)
    → Some (a, behind) ≡ read_first read left → length behind < length left
first_shorter read left behind a is = rw ((first_parts read left behind a is).1) (omega arith)

-- the first item of those that are left is read
pub each_first : {A : Type 0} (read : List ℕ → Option A) (front : List A)
    (left behind : List (List ℕ)) (a : A) (all : Option (List A))
    → Some (a, behind) ≡ read_first read left
    → option_map (λ others. front ++ others) (each read left) ≡ all
    → option_map (λ others. (front ++ a ∷ []) ++ others) (each read behind) ≡ all
each_first read front left behind a all is so =
    let parts = first_parts read left behind a is in
    each_more read front parts.0 a behind all (sym parts.2) (rw parts.1 at so)

-- what is none with its words is none
none_first : {A : Type 0} (words : List (List ℕ)) (o : Option A)
    → ◌≡◌ {A = Option (A × List (List ℕ))} None (option_map (λ a. (a, words)) o) → None ≡ o
none_first words None is = refl
none_first words (Some a) is = absurd cc

-- the first item of those that are left is not readable
pub each_stops : {A : Type 0} (read : List ℕ → Option A) (front : List A) (left : List (List ℕ))
    (all : Option (List A)) → 0 < length left → None ≡ read_first read left
    → option_map (λ others. front ++ others) (each read left) ≡ all → None ≡ all
each_stops read front [] all some is so = absurd (omega (arith, some))
each_stops read front (word ∷ words) all some is so =
    each_none read front word words all (none_first words (read word) is) so

-- one word more is read
pub read_more : (read : List ℕ → Option ℕ) (words left behind : List (List ℕ)) (front : List ℕ)
    (n : ℕ) → HasRead read words left front → Some (n, behind) ≡ read_first read left
    → HasRead read words behind (front ++ n ∷ [])
read_more read words left behind front n has is =
    let parts = first_parts read left behind n is in
    record {
      count = omega (arith, rw parts.1 at has.count, length-append front (n ∷ []));
      values = rw (parts.1, parts.2, map_more front n (each read behind)) at has.values;
    }

-- a first word that is read, and what is read from the words behind it
pub both_read : {A : Type 0} (read : List ℕ → Option ℕ) (others : List (List ℕ) → Option A)
    (words left : List (List ℕ)) (n : ℕ) (a : A) → Some (n, left) ≡ read_first read words
    → Some a ≡ others left
    → (let pair : ℕ × A = (n, a) in Some pair) ≡ read_both read others words
both_read read others words left n a is so =
    let parts = first_parts read words left n is in
    rw (parts.1, parts.2, ← so)

-- as many words as are wanted
pub read_all : (read : List ℕ → Option ℕ) (n : ℕ) (words : List (List ℕ)) (front : List ℕ)
    → HasRead read words [] front → length front ≡ n → Some front ≡ read_times read n words
read_all read n words front has long =
    rw (eq-eqb (length words) n (omega (arith, has.count, long)), has.values, append-nil) refl

-- more words than are wanted
pub read_too_many : (read : List ℕ → Option ℕ) (n : ℕ) (words left : List (List ℕ)) (front : List ℕ)
    → HasRead read words left front → length front ≡ n → 0 < length left
    → None ≡ read_times read n words
read_too_many read n words left front has long some =
    grind (arith, common_steps, nat_tests, has.count)

-- the first word is not the last one
pub first_not_last : (read : List ℕ → Option ℕ) (words behind : List (List ℕ)) (n : ℕ)
    → Some (n, behind) ≡ read_first read words → 0 < length behind → None ≡ read_last read words
first_not_last read words [] n is some = absurd (omega (arith, some))
first_not_last read words (word ∷ behind) n is some =
    rw ((first_parts read words (word ∷ behind) n is).1)
