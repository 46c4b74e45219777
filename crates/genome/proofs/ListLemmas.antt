-- What a list keeps of one item more, and what an option that has a value was made of.
use Rattle.std.proofs.Common.{◌≡◌, ◌∙◌, refl, sym, cond, nat_lt, true, false, Bool, ◌≤◌, arith, ap, ℕ, ◌+◌, ◌<◌, Option, None, Some, List, [], ◌∷◌, ◌++◌, length, take, take_all, get_or, append-nil}
use Rattle.std.specs.Prelude.{filter_map, position}
use Rattle.std.specs.List.{before_first, cons_option, position_from, position_or_len, AllByRecursion}
use Rattle.std.proofs.lemmas.List.{take_more}
use Rattle.std.proofs.lemmas.List.Elements.{filter_map-append}
use Rattle.std.specs.Option.{option_map, option_and_then}

-- one item more, and what is made of it
pub filter_map-more : {A B : Type 0} (h : A → Option B) (items : List A) (at : ℕ) (d : A)
    → at < length items → filter_map h (take (at + 1) items) ≡ filter_map h (take at items)
    ++ cons_option (h (get_or items at d)) []
filter_map-more h items at d within = ap (filter_map h) (take_more items at d within)
    ∙ filter_map-append h (take at items) (get_or items at d ∷ [])

-- one item more is kept
pub filter_map-kept : {A B : Type 0} (h : A → Option B) (items : List A) (at : ℕ) (d : A) (made : B)
    → at < length items → h (get_or items at d) ≡ Some made
    → filter_map h (take (at + 1) items) ≡ filter_map h (take at items) ++ made ∷ []
filter_map-kept h items at d made within is = filter_map-more h items at d within
    ∙ ap (λ o. filter_map h (take at items) ++ cons_option o []) is

-- one item more is left out
pub filter_map-left_out : {A B : Type 0} (h : A → Option B) (items : List A) (at : ℕ) (d : A)
    → at < length items → h (get_or items at d) ≡ None
    → filter_map h (take (at + 1) items) ≡ filter_map h (take at items)
filter_map-left_out h items at d within is = filter_map-more h items at d within
    ∙ ap (λ o. filter_map h (take at items) ++ cons_option o []) is
    ∙ append-nil (filter_map h (take at items))

pub ruleset filter_map_steps = (filter_map-kept, filter_map-left_out)

-- what stands before the first that passes, where there is one
pub before_first-at : {A : Type 0} (p : A → Bool) (items : List A) (at : ℕ)
    → position p items ≡ Some at → take at items ≡ before_first p items
before_first-at p items at is = by (nat_lt (position_or_len p items) (length items)) is where
  -- where a place was found, the items up to it are those before the first that passes
  by : (b : Bool) → cond b (Some (position_or_len p items)) None ≡ Some at
      → take at items ≡ before_first p items
  by true is = let same : position_or_len p items ≡ at = cc in ap (λ n. take n items) (sym same)
  by false is = cc

-- all stands before the first that passes, where there is none
pub before_first-all : {A : Type 0} (p : A → Bool) (items : List A) → position p items ≡ None
    → items ≡ before_first p items
before_first-all p items is = let past : length items ≤ position_or_len p items =
    by (nat_lt (position_or_len p items) (length items)) refl is in
    sym (take_all (position_or_len p items) items past) where
      by : (b : Bool) → nat_lt (position_or_len p items) (length items) ≡ b
          → cond b (Some (position_or_len p items)) None ≡ None
          → length items ≤ position_or_len p items
      by true _ is = cc
      by false past is = grind (arith, past)

pub ruleset before_first_steps = (before_first-at, before_first-all)

-- counted from one more, a place is one more
pub position_from-next : {A : Type 0} (p : A → Bool) (from : ℕ) (items : List A) (at : ℕ)
    → position_from p from items ≡ Some at → position_from p (from + 1) items ≡ Some (at + 1)
position_from-next p from [] at is = cc
position_from-next p from (item ∷ items) at is =
    by (p item) is (position_from-next p (from + 1) items at) where
      by : (b : Bool) → cond b (Some from) (position_from p (from + 1) items) ≡ Some at
          → (position_from p (from + 1) items ≡ Some at
          → position_from p (from + 1 + 1) items ≡ Some (at + 1))
          → cond b (Some (from + 1)) (position_from p (from + 1 + 1) items) ≡ Some (at + 1)
      by true is _ = let same : from ≡ at = cc in ap (λ n. Some (n + 1)) same
      by false is next = next is

-- counted from one more, there is none where there was none
pub position_from-none : {A : Type 0} (p : A → Bool) (from : ℕ) (items : List A)
    → position_from p from items ≡ None → position_from p (from + 1) items ≡ None
position_from-none p from [] is = refl
position_from-none p from (item ∷ items) is =
    by (p item) is (position_from-none p (from + 1) items) where
      by : (b : Bool) → cond b (Some from) (position_from p (from + 1) items) ≡ None
          → (position_from p (from + 1) items ≡ None → position_from p (from + 1 + 1) items ≡ None)
          → cond b (Some (from + 1)) (position_from p (from + 1 + 1) items) ≡ None
      by true is _ = cc
      by false is next = next is

-- lines are counted from 1
pub position_from-one : {A : Type 0} (p : A → Bool) (items : List A) (at : ℕ)
    → position_from p 0 items ≡ Some at → position_from p 1 items ≡ Some (at + 1)
position_from-one p items at is = position_from-next p 0 items at is

-- counted from 1, there is none where there was none
pub position_from-one_none : {A : Type 0} (p : A → Bool) (items : List A)
    → position_from p 0 items ≡ None → position_from p 1 items ≡ None
position_from-one_none p items is = position_from-none p 0 items is

pub ruleset counted_from_one = (position_from-one, position_from-one_none)

-- what holds of all of two lists holds of all of one behind the other
pub all_append : {X : Type 0} (P : X → Type 0) (xs ys : List X) → AllByRecursion P xs
    → AllByRecursion P ys → AllByRecursion P (xs ++ ys)
all_append P [] ys first rest = rest
all_append P (x ∷ xs) ys first rest = (first.0, all_append P xs ys first.1 rest)

-- what is mapped was there
pub some_map : {A B : Type 0} (f : A → B) (o : Option A) (b : B) → option_map f o ≡ Some b
    → (a : A) × (o ≡ Some a) × (f a ≡ b)
some_map f None b is = absurd cc
some_map f (Some a) b is = (a, refl, cc)

-- what goes on was there
pub some_then : {A B : Type 0} (f : A → Option B) (o : Option A) (b : B)
    → option_and_then f o ≡ Some b → (a : A) × (o ≡ Some a) × (f a ≡ Some b)
some_then f None b is = absurd cc
some_then f (Some a) b is = (a, refl, is)
