-- Lists that were written at a place, or grew at their end, and folds over lists.
use Rattle.std.proofs.Common.{◌≡◌, ◌≢◌, ℕ, zero, suc, ◌+◌, ◌<◌, true, List, [], ◌∷◌, ◌++◌, map, length, drop, Option, Some, None, refl, sym, ap, arith, eq-eqb, inl, inr, ◌∙◌}
use Rattle.std.specs.Prelude.{slice_get, slice_set, slice_index_or, ◌==◌, fold, replicate}
use Rattle.world_laws.proofs.Prelude.{cases_eq, length-set, set-get_or, slice_get_within, get_other}

-- what was written at a place stands there
pub get_written : {X : Type 0} (xs : List X) (i : ℕ) (x : X) → i < length xs
    → slice_get (slice_set xs i x) i ≡ Some x
get_written [] i x h = absurd (omega (arith, h))
get_written (y ∷ ys) zero x h = refl
get_written (y ∷ ys) (suc i) x h = get_written ys i x (omega (arith, h))

-- who stands once a place is empty stood there before, and in another place
pub get_emptied : {X : Type 0} (xs : List (Option X)) (i at : ℕ) (x : X)
    → slice_get (slice_set xs at None) i ≡ Some (Some x)
    → (slice_get xs i ≡ Some (Some x)) × (i ≢ at)
get_emptied xs i at x h = elim (cases_eq i at) [
  | inl same ↦
      let here = rw same at h in
      let within = slice_get_within (slice_set xs at None) at (Some x) here in
      let e = get_written xs at None (rw length-set at within) in
      absurd cc
  | inr other ↦ (sym (get_other xs at i None other) ∙ h, other)
]

-- a number passes the test of equality with itself
pub eqb_same : (n : ℕ) → (n == n) ≡ true
eqb_same n = eq-eqb n n refl

-- a function of copies of an item makes as many copies of its value
pub map-replicate : {X Y : Type 0} (f : X → Y) (n : ℕ) (x : X)
    → map f (replicate n x) ≡ replicate n (f x)
map-replicate f zero x = refl
map-replicate f (suc n) x = ap (λ l. f x ∷ l) (map-replicate f n x)

-- an empty place made empty
pub set_nothing : {X : Type 0} (xs : List (Option X)) (i : ℕ) → slice_index_or xs i None ≡ None
    → slice_set xs i None ≡ xs
set_nothing xs i h = ap (slice_set xs i) (sym h) ∙ set-get_or xs i None

-- somebody stands in a place
pub got_some : {X : Type 0} (xs : List (Option X)) (i : ℕ) (x : X)
    → slice_index_or xs i None ≡ Some x → slice_get xs i ≡ Some (Some x)
got_some [] i x h = absurd cc
got_some (y ∷ xs) zero x h = ap Some h
got_some (y ∷ xs) (suc i) x h = got_some xs i x h

-- at the places of a first list stands what it has, whatever is behind
pub get_left : {X : Type 0} (xs ys : List X) (i : ℕ) → i < length xs
    → slice_get (xs ++ ys) i ≡ slice_get xs i
get_left [] ys i h = absurd (omega (arith, h))
get_left (x ∷ xs) ys zero h = refl
get_left (x ∷ xs) ys (suc i) h = get_left xs ys i (omega (arith, h))

-- behind a first list stands what the second one has
pub get_right : {X : Type 0} (xs ys : List X) (j : ℕ)
    → slice_get (xs ++ ys) (length xs + j) ≡ slice_get ys j
get_right [] ys j = let e : 0 + j ≡ j = omega arith in ap (slice_get ys) e
get_right (x ∷ xs) ys j =
    let e : length (x ∷ xs) + j ≡ suc (length xs + j) = omega arith in rw e (get_right xs ys j)

-- without the first n items, at a place stands what stood n places later
pub get_dropped : {X : Type 0} (n : ℕ) (xs : List X) (j : ℕ)
    → slice_get (drop n xs) j ≡ slice_get xs (n + j)
get_dropped zero xs j = let e : j ≡ 0 + j = omega arith in ap (slice_get xs) e
get_dropped (suc n) [] j = refl
get_dropped (suc n) (x ∷ xs) j =
    let e : suc n + j ≡ suc (n + j) = omega arith in rw e (get_dropped n xs j)

-- what each step keeps, a fold keeps
pub fold-keeps : {A B : Type 0} (f : B → A → B) (P : B → Type 0)
    → ((b : B) (x : A) → P b → P (f b x)) → (b : B) (xs : List A) → P b → P (fold f b xs)
fold-keeps f P keeps b [] h = h
fold-keeps f P keeps b (x ∷ xs) h = fold-keeps f P keeps (f b x) xs (keeps b x h)
