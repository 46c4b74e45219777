-- Names in a list: where one stands first, and lists with no name twice.
use Rattle.std.proofs.Common.{◌≡◌, ◌∙◌, arith, refl, sym, inl, inr, ℕ, suc, Bool, true, false, List, [], ◌∷◌, ◌++◌, map, position, Option, Some, None, option_map}
use Rattle.std.specs.Prelude.{if◌then◌else◌}
use Rattle.command_line.proofs.Prelude.{bytes_eq, cases_Bool, false≢true, or_parts, common_steps, list_any-append, Text, are_distinct, has_name}
use Rattle.std.proofs.lemmas.Slice.Eq.{bytes_eq-Decides}

-- texts that pass the test are the same
pub same_text : (x y : Text) → bytes_eq x y ≡ true → x ≡ y
same_text x y is = grind (arith, bytes_eq-Decides x y)

-- a text passes the test with itself
pub bytes_same : (x : Text) → bytes_eq x x ≡ true
bytes_same x = grind (arith, bytes_eq-Decides x x)

-- the test says the same of two texts in either order
pub bytes_turned : (x y : Text) → bytes_eq x y ≡ bytes_eq y x
bytes_turned x y = grind (arith, common_steps, bytes_eq-Decides x y, bytes_eq-Decides y x)

-- the first place that passes
abbrev pub place_by : {X : Type 0} → (X → Bool) → List X → Option ℕ
place_by p [] = None
place_by p (x ∷ xs) = if p x then Some 0 else option_map (λ i. suc i) (place_by p xs)

-- the first place of this name
abbrev pub place_of : Text → List Text → Option ℕ
place_of name names = place_by (λ m. bytes_eq m name) names

-- `position` gives the first place that passes
pub position_is : {X : Type 0} (p : X → Bool) (xs : List X) → position p xs ≡ place_by p xs
position_is p [] = refl
position_is {X} p (x ∷ xs) = grind (arith, common_steps, position_is p xs)

-- the first item that has this name stands at the name's first place among the items' names
pub place_by_map : {X : Type 0} (f : X → Text) (name : Text) (xs : List X)
    → place_by (λ x. bytes_eq (f x) name) xs ≡ place_of name (map f xs)
place_by_map f name [] = refl
place_by_map f name (x ∷ xs) = rw (place_by_map f name xs) refl

-- the name is there or not
pub data Stands (name : Text) (names : List Text) : Type 0 where
  there : (i : ℕ) → place_of name names ≡ Some i → has_name name names ≡ true → Stands name names
  apart : place_of name names ≡ None → has_name name names ≡ false → Stands name names

-- whether a name is there doesn't change with another name in front
later : (name x : Text) (xs : List Text) → bytes_eq x name ≡ false → Stands name xs
    → Stands name (x ∷ xs)
later name x xs a (there i p h) = there (suc i) (rw (a, p) refl) (rw (a, h) refl)
later name x xs a (apart p h) = apart (rw (a, p) refl) (rw (a, h) refl)

-- a name has a place in a list just where it is one of its names
pub stands : (name : Text) (names : List Text) → Stands name names
stands name [] = apart refl refl
stands name (x ∷ xs) = elim (cases_Bool (bytes_eq x name)) [
  | inl a ↦ there 0 (rw a refl) (rw a refl)
  | inr a ↦ later name x xs a (stands name xs)
]

-- a name that has a place in a list is one of its names
pub placed_has : (name : Text) (names : List Text) (i : ℕ) → place_of name names ≡ Some i
    → has_name name names ≡ true
placed_has name names i is = elim (stands name names) [ there j p h ↦ h | apart p h ↦ cc ]

-- a list and what follows it
pub record Parted (xs ys : List Text) : Type 0 where
  pub first : are_distinct xs ≡ true
  pub second : are_distinct ys ≡ true
  pub apart : (name : Text) → has_name name xs ≡ true → has_name name ys ≡ false

-- the first of distinct names is none of the others, which are distinct
pub head_apart : (x : Text) (xs : List Text) → are_distinct (x ∷ xs) ≡ true
    → (has_name x xs ≡ false) × (are_distinct xs ≡ true)
head_apart x xs is = (grind (arith, common_steps), grind (arith, common_steps))

-- where two lists have no name twice, each has none twice, and they have none in common
pub parted : (xs ys : List Text) → are_distinct (xs ++ ys) ≡ true → Parted xs ys
parted [] ys is = record { first = refl; second = is; apart = λ name h. absurd (false≢true h) }
parted (x ∷ xs) ys is = step (parted xs ys (head_apart x (xs ++ ys) is).1)
  where
    split : (has_name x xs ≡ false) × (has_name x ys ≡ false)
    split = or_parts (has_name x xs) (has_name x ys)
        (sym (list_any-append (λ m. bytes_eq m x) xs ys) ∙ (head_apart x (xs ++ ys) is).0)

    step : Parted xs ys → Parted (x ∷ xs) ys
    step rest = record {
      first = rw (split.0, rest.first) refl;
      second = rest.second;
      apart = λ name h. grind (arith, common_steps, rest.apart name, same_text x name, split.1);
    }

-- a name of the second list is none of the first
pub apart_back : (xs ys : List Text) → Parted xs ys → (name : Text) → has_name name ys ≡ true
    → has_name name xs ≡ false
apart_back xs ys p name h = grind (arith, common_steps, p.apart name)
