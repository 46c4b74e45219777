-- Counts over two lists beside each other.
use Rattle.std.proofs.Common.{◌≡◌, ℕ, ◌+◌, Bool, false, cond, eqb, ltb, List, [], ◌∷◌, length, refl, arith}
use Rattle.std.specs.Prelude.{count_by}
use Rattle.phylogeny.proofs.Prelude.{list_all, list_any, common_steps, sum_by-cons, count_by-le-length}

-- one, or none
abbrev pub bit : Bool → ℕ
bit b = cond b 1 0

-- one item more in front is counted where it passes
pub count_cons : {X : Type 0} (p : X → Bool) (x : X) (xs : List X)
    → count_by p (x ∷ xs) ≡ bit (p x) + count_by p xs
count_cons p x xs = sum_by-cons (λ y. cond (p y) 1 0) x xs

-- one that does not pass is not counted
pub count_no : {X : Type 0} (p : X → Bool) (x : X) (xs : List X) → p x ≡ false
    → count_by p (x ∷ xs) ≡ count_by p xs
count_no p x xs failed =
    grind (arith, common_steps, count_cons p x xs)

-- tests that answer alike count alike
pub count_same : {X : Type 0} (p q : X → Bool) → ((x : X) → p x ≡ q x) → (xs : List X)
    → count_by p xs ≡ count_by q xs
count_same p q same xs = λ i. count_by (λ x. same x i) xs

-- where each passes p as often as q, and also r if t holds, so do all
pub count_handed : {X : Type 0} (p q r : X → Bool) (t : Bool)
    → ((x : X) → bit (p x) ≡ bit (q x) + cond t (bit (r x)) 0) → (xs : List X)
    → count_by p xs ≡ count_by q xs + cond t (count_by r xs) 0
count_handed p q r t each [] = grind (arith, common_steps)
count_handed p q r t each (x ∷ xs) =
    let rest = count_handed p q r t each xs in
    grind (arith, common_steps, rest, each x, count_cons p x xs, count_cons q x xs, count_cons r x xs)

-- some pass where at least one is counted
pub any_counted : {X : Type 0} (p : X → Bool) (xs : List X) → list_any p xs ≡ ltb 0 (count_by p xs)
any_counted p [] = refl
any_counted p (x ∷ xs) = grind (arith, common_steps, any_counted p xs, count_cons p x xs)

-- all pass where as many are counted as there are
pub all_counted : {X : Type 0} (p : X → Bool) (xs : List X)
    → list_all p xs ≡ eqb (count_by p xs) (length xs)
all_counted p [] = refl
all_counted p (x ∷ xs) =
    grind (arith, common_steps, all_counted p xs, count_by-le-length p xs, count_cons p x xs)
