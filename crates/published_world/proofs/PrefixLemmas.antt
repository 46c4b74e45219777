-- Prefixes of a list, and one element more.
use Rattle.std.proofs.Common.{◌≡◌, ◌⊎◌, ℕ, zero, suc, ◌<◌, ◌≤◌, List, [], ◌∷◌, ◌++◌, length, take, drop, get_or, Some, slice_get, refl, ap, sym, ◌∙◌, inl, inr, ⊎_elim, arith, append_assoc, append-nil, length-append}
use Rattle.std.proofs.lemmas.List.{take-append-le, take-append-drop}
use mathlib.Core.List.{IsPrefix}

module _ {A : Type 0} where
  -- a list is a prefix of itself
  pub prefix_self : (xs : List A) → IsPrefix xs xs
  prefix_self xs = ([], append-nil xs)

  -- a prefix of a prefix is a prefix of the whole
  pub prefix_trans : (xs ys zs : List A) → IsPrefix xs ys → IsPrefix ys zs → IsPrefix xs zs
  prefix_trans xs ys zs p q =
      (p.0 ++ q.0, sym (append_assoc xs p.0 q.0) ∙ (ap (λ w. w ++ q.0) p.1 ∙ q.1))

  -- a prefix of a list is one of the list with one element more
  pub prefix_more : (xs ys : List A) (y : A) → IsPrefix xs ys → IsPrefix xs (ys ++ y ∷ [])
  prefix_more xs ys y p = prefix_trans xs ys (ys ++ y ∷ []) p (y ∷ [], refl)

  -- a prefix is no longer than the whole
  pub prefix_length : (xs ys : List A) → IsPrefix xs ys → length xs ≤ length ys
  prefix_length xs ys p = omega (arith, sym (ap length p.1) ∙ length-append xs p.0)

  -- the first elements of a list are a prefix
  pub take_is_prefix : (n : ℕ) (xs : List A) → IsPrefix (take n xs) xs
  take_is_prefix n xs = (drop n xs, take-append-drop n xs)

  -- of a list that goes on, the first elements stay
  pub take_of_longer : (n : ℕ) (xs ys : List A) → IsPrefix xs ys → n ≤ length xs
      → take n ys ≡ take n xs
  take_of_longer n xs ys p le = ap (take n) (sym p.1) ∙ take-append-le n xs p.0 le

  -- a prefix of the empty list is empty
  pub prefix_of_none : (xs ys : List A) → IsPrefix xs ys → length ys ≡ 0 → xs ≡ ys
  prefix_of_none [] [] p e = refl
  prefix_of_none [] (y ∷ ys) p e = absurd (omega (arith, e))
  prefix_of_none (x ∷ xs) [] p e = absurd (cc (p.1))
  prefix_of_none (x ∷ xs) (y ∷ ys) p e = absurd (omega (arith, e))

  -- what stands in a prefix stands in the whole, at the same place
  pub get_in_longer : (xs ys : List A) (place : ℕ) (x : A) → IsPrefix xs ys
      → slice_get xs place ≡ Some x → slice_get ys place ≡ Some x
  get_in_longer [] ys place x p e = absurd cc
  get_in_longer (z ∷ xs) [] place x p e = absurd (cc (p.1))
  get_in_longer (z ∷ xs) (y ∷ ys) zero x p e = cc (p.1, e)
  get_in_longer (z ∷ xs) (y ∷ ys) (suc place) x p e = get_in_longer xs ys place x (p.0, cc (p.1)) e

  -- one element more stands at the place of the old length
  pub get_last : (xs : List A) (x : A) → slice_get (xs ++ x ∷ []) (length xs) ≡ Some x
  get_last [] x = refl
  get_last (y ∷ xs) x = get_last xs x

  -- what stands in a list with one element more stood there before, or is that element
  pub get_in_more : (xs : List A) (x : A) (place : ℕ) (y : A)
      → slice_get (xs ++ x ∷ []) place ≡ Some y → (slice_get xs place ≡ Some y)
      ⊎ ((place ≡ length xs) × (x ≡ y))
  get_in_more [] x zero y e = inr (refl, cc)
  get_in_more [] x (suc place) y e = absurd cc
  get_in_more (z ∷ xs) x zero y e = inl e
  get_in_more (z ∷ xs) x (suc place) y e =
      ⊎_elim (λ h. inl h) (λ h. inr (ap suc h.0, h.1)) (get_in_more xs x place y e)

  -- at each place before the end an element stands, the one that is read with a default
  pub get_at : (xs : List A) (place : ℕ) (d : A) → place < length xs
      → slice_get xs place ≡ Some (get_or xs place d)
  get_at [] place d l = absurd (omega arith)
  get_at (x ∷ xs) zero d l = refl
  get_at (x ∷ xs) (suc place) d l = get_at xs place d (omega arith)
