-- Who stands in the cells stands there alone, is kept, and is none of those who died.
use Rattle.std.proofs.Common.{◌≡◌, ℕ, zero, suc, ◌<◌, List, [], ◌∷◌, ◌++◌, Option, Some, None, length, refl, sym, ap, ◌∙◌, arith, inl, inr, cond, Bool, true, false}
use Rattle.std.specs.Prelude.{◌≢◌, ◌⊎◌, replicate, slice_get, slice_set, fold, filter}
use Rattle.lineage_log.proofs.Prelude.{AllByRecursion, option_to_list, length-append, length-set, slice_get_within, Letter}

-- ---- lists

-- what a place holds after a write
pub get_written : {A : Type 0} (xs : List (Option A)) (i j : ℕ) (slot : Option A) (x : A)
    → slice_get (slice_set xs i slot) j ≡ Some (Some x) → ((i ≡ j) × (slot ≡ Some x))
    ⊎ ((i ≢ j) × (slice_get xs j ≡ Some (Some x)))
get_written [] i j slot x is = absurd cc
get_written (y ∷ ys) zero j slot x is = grind arith
get_written (y ∷ ys) (suc i) zero slot x is = grind arith
get_written (y ∷ ys) (suc i) (suc j) slot x is = grind (arith, get_written ys i j slot x is)

-- a write leaves all other places as they are
pub get_other : {A : Type 0} (xs : List A) (i j : ℕ) (x : A) → j ≢ i
    → slice_get (slice_set xs i x) j ≡ slice_get xs j
get_other (y ∷ ys) zero zero x other = absurd (other refl)
get_other (y ∷ ys) (suc i) (suc j) x other = get_other ys i j x (λ e. other (ap suc e))
get_other _ _ _ x other = refl

-- a list with one item more has at a place what it had there, or at its end that item
pub get_pushed : {A : Type 0} (xs : List A) (y z : A) (i : ℕ) → slice_get (xs ++ y ∷ []) i ≡ Some z
    → (slice_get xs i ≡ Some z) ⊎ ((i ≡ length xs) × (y ≡ z))
get_pushed [] y z i is = grind arith
get_pushed (x ∷ xs) y z zero is = inl is
get_pushed (x ∷ xs) y z (suc i) is = grind (arith, get_pushed xs y z i is)

-- what a list has at a place it has there still with more behind it
pub get_more : {A : Type 0} (xs ys : List A) (i : ℕ) (z : A) → slice_get xs i ≡ Some z
    → slice_get (xs ++ ys) i ≡ Some z
get_more [] ys i z is = absurd cc
get_more (x ∷ xs) ys zero z is = is
get_more (x ∷ xs) ys (suc i) z is = get_more xs ys i z is

-- the item behind a list stands at the list's length
pub get_seam : {A : Type 0} (xs ys : List A) (y : A) → slice_get (xs ++ y ∷ ys) (length xs) ≡ Some y
get_seam [] ys y = refl
get_seam (x ∷ xs) ys y = get_seam xs ys y

-- cells in which nobody stands
abbrev pub empty : ℕ → List (Option ℕ)
empty cells = replicate cells None

-- nobody stands in any of them
pub none_there : (cells cell id : ℕ) → slice_get (empty cells) cell ≡ Some (Some id) → ⊥
none_there (suc cells) (suc cell) id is = none_there cells cell id is
none_there _ _ id is = absurd cc

-- what holds of each id and of one more holds of all with that one at the end
all_pushed : (P : ℕ → Type 0) (xs : List ℕ) (y : ℕ) → AllByRecursion P xs → P y
    → AllByRecursion P (xs ++ y ∷ [])
all_pushed P [] y all here = (here, tt)
all_pushed P (x ∷ xs) y all here = (all.0, all_pushed P xs y all.1 here)

-- what holds of each id and of one more, if there is one, holds of all with it
all_with : (P : ℕ → Type 0) (xs : List ℕ) (o : Option ℕ) → AllByRecursion P xs
    → ((y : ℕ) → o ≡ Some y → P y) → AllByRecursion P (xs ++ option_to_list o)
all_with P [] None all here = tt
all_with P (x ∷ xs) None all here = (all.0, all_with P xs None all.1 here)
all_with P xs (Some y) all here = all_pushed P xs y all (here y refl)

-- what follows from what holds of each id holds of each id
all_else : (P Q : ℕ → Type 0) → ((x : ℕ) → P x → Q x) → (xs : List ℕ) → AllByRecursion P xs
    → AllByRecursion Q xs
all_else P Q gives [] all = tt
all_else P Q gives (x ∷ xs) all = (gives x all.0, all_else P Q gives xs all.1)

-- what holds of each item holds of each that a filter leaves
pub all_filtered : {X : Type 0} (P : X → Type 0) (p : X → Bool) (xs : List X) → AllByRecursion P xs
    → AllByRecursion P (filter p xs)
all_filtered P p [] all = tt
all_filtered P p (x ∷ xs) all =
    elim (p x) as (λ b. AllByRecursion P (cond b (x ∷ filter p xs) (filter p xs))) [
      | true ↦ (all.0, all_filtered P p xs all.1)
      | false ↦ all_filtered P p xs all.1
    ]

-- ---- the people that are kept

-- by id the genomes of who is kept
abbrev pub People : Type 0
People = List (Option (List Letter))

-- the people without these ids
abbrev pub without : List ℕ → People → People
without ids people = fold (λ people id. slice_set people id None) people ids

-- the people without some ids have as many places
pub length_without : (ids : List ℕ) (people : People) → length (without ids people) ≡ length people
length_without [] people = refl
length_without (id ∷ ids) people =
    length_without ids (slice_set people id None) ∙ length-set people id None

-- a genome that is kept once some ids are left out was kept before
pub kept_before : (ids : List ℕ) (people : People) (id : ℕ) (letters : List Letter)
    → slice_get (without ids people) id ≡ Some (Some letters)
    → slice_get people id ≡ Some (Some letters)
kept_before [] people id letters is = is
kept_before (d ∷ ids) people id letters is =
    grind (
      arith,
      get_written people d id None letters
          (kept_before ids (slice_set people d None) id letters is),
    )

-- leaving out other ids leaves what is kept of this one
kept_still : (ids : List ℕ) (people : People) (id : ℕ) → AllByRecursion (λ d. d ≢ id) ids
    → slice_get (without ids people) id ≡ slice_get people id
kept_still [] people id apart = refl
kept_still (d ∷ ids) people id apart =
    kept_still ids (slice_set people d None) id apart.1
    ∙ get_other people d id None (λ e. apart.0 (sym e))

-- ---- who stands in the cells

-- who stands in a cell stands there alone, is kept, and is none of those who died
pub record IsTidy (standing : List (Option ℕ)) (people : People) (leaving : List ℕ) : Type 0 where
  pub present : (cell id : ℕ) → slice_get standing cell ≡ Some (Some id) → (letters : List Letter)
      × (slice_get people id ≡ Some (Some letters))
  pub staying : (cell id : ℕ) → slice_get standing cell ≡ Some (Some id)
      → AllByRecursion (λ d. d ≢ id) leaving
  pub once : (a b id : ℕ) → slice_get standing a ≡ Some (Some id)
      → slice_get standing b ≡ Some (Some id) → a ≡ b
  pub gone : AllByRecursion (λ d. d < length people) leaving

-- an id that stands in a cell is below the next one
below_next : (people : People) (id : ℕ) → (letters : List Letter)
    × (slice_get people id ≡ Some (Some letters)) → id < length people
below_next people id found = slice_get_within people id (Some found.0) found.1

module _ (standing : List (Option ℕ)) (people : People) (leaving : List ℕ)
    (tidy : IsTidy standing people leaving) where
  -- who stands once a cell is empty stands in another cell, as before
  left_standing : (cell c i : ℕ) → slice_get (slice_set standing cell None) c ≡ Some (Some i)
      → (cell ≢ c) × (slice_get standing c ≡ Some (Some i))
  left_standing cell c i is = grind (arith, get_written standing cell c None i is)

  -- the cells are tidy still once who stands in one of them has died
  pub tidy_death : (cell id : ℕ) → slice_get standing cell ≡ Some (Some id)
      → IsTidy (slice_set standing cell None) people (leaving ++ id ∷ [])
  tidy_death cell id stood = record {
    present = λ c i is. tidy.present c i (left_standing cell c i is).1;
    staying = λ c i is.
        let left = left_standing cell c i is in
        all_pushed (λ d. d ≢ i) leaving id (tidy.staying c i left.1)
        (λ same. left.0 (tidy.once cell c i (rw same at stood) left.1));
    once = λ a b i at_a at_b. tidy.once a b i (left_standing cell a i at_a).1
        (left_standing cell b i at_b).1;
    gone = all_pushed (λ d. d < length people) leaving id tidy.gone
        (below_next people id (tidy.present cell id stood));
  }

  -- the cells with a newcomer of the next id in one of them
  abbrev new_standing : ℕ → List (Option ℕ)
  new_standing cell = slice_set standing cell (Some (length people))

  -- the people with the newcomer's genome
  abbrev new_people : List Letter → People
  new_people genome = people ++ Some genome ∷ []

  -- who stands after somebody came: the newcomer, or one who stood elsewhere
  stands_now : (cell c i : ℕ) → slice_get (new_standing cell) c ≡ Some (Some i)
      → ((cell ≡ c) × (length people ≡ i)) ⊎ ((cell ≢ c) × (slice_get standing c ≡ Some (Some i)))
  stands_now cell c i is =
      grind (arith, get_written standing cell c (Some (length people)) i is)

  -- who stands after somebody came is kept
  new_present : (cell : ℕ) (genome : List Letter) (c i : ℕ)
      → slice_get (new_standing cell) c ≡ Some (Some i) → (letters : List Letter)
      × (slice_get (new_people genome) i ≡ Some (Some letters))
  new_present cell genome c i is = elim (stands_now cell c i is) [
    | inl here ↦ (genome, rw (← here.1) (get_seam people [] (Some genome)))
    | inr there ↦ let found = tidy.present c i there.1 in
        (found.0, get_more people (Some genome ∷ []) i (Some found.0) found.1)
  ]

  -- who stands after somebody came is none of those who died, nor who stood in the cell
  new_staying : (cell : ℕ) (over : Option ℕ) → slice_get standing cell ≡ Some over → (c i : ℕ)
      → slice_get (new_standing cell) c ≡ Some (Some i)
      → AllByRecursion (λ d. d ≢ i) (leaving ++ option_to_list over)
  new_staying cell over stood c i is = elim (stands_now cell c i is) [
    | inl here ↦ all_with (λ d. d ≢ i) leaving over
        (all_else (λ d. d < length people) (λ d. d ≢ i)
        (λ d below same. absurd (omega (arith, here.1))) leaving tidy.gone)
        (λ d o same. let below = below_next people d (tidy.present cell d (cc)) in
        absurd (omega (arith, here.1)))
    | inr there ↦ all_with (λ d. d ≢ i) leaving over (tidy.staying c i there.1)
        (λ d o same. there.0 (tidy.once cell c i (cc) there.1))
  ]

  -- who stands after somebody came stands in one cell
  new_once : (cell a b i : ℕ) → slice_get (new_standing cell) a ≡ Some (Some i)
      → slice_get (new_standing cell) b ≡ Some (Some i) → a ≡ b
  new_once cell a b i at_a at_b =
      let below : (c : ℕ) → slice_get standing c ≡ Some (Some i) → i < length people =
      λ (c : ℕ) (at : slice_get standing c ≡ Some (Some i)).
      below_next people i (tidy.present c i at) in
      grind (
        arith,
        stands_now cell a i at_a,
        stands_now cell b i at_b,
        below a,
        below b,
        tidy.once a b i,
      )

  -- the cells are tidy still once a newcomer stands in one of them
  pub tidy_newcomer : (cell : ℕ) (over : Option ℕ) (genome : List Letter)
      → slice_get standing cell ≡ Some over
      → IsTidy (new_standing cell) (new_people genome) (leaving ++ option_to_list over)
  tidy_newcomer cell over genome stood = record {
    present = new_present cell genome;
    staying = new_staying cell over stood;
    once = new_once cell;
    gone =
        let more = length-append people (Some genome ∷ []) in
        all_with (λ d. d < length (new_people genome)) leaving over
        (all_else (λ d. d < length people) (λ d. d < length (new_people genome))
        (λ d below. omega (arith, more)) leaving tidy.gone)
        (λ d o. let below = below_next people d (tidy.present cell d (cc)) in omega (arith, more));
  }

  -- the cells are tidy still once those who died are left out of the people
  pub tidy_renewed : IsTidy standing (without leaving people) []
  tidy_renewed = record {
    present = λ c i is. let found = tidy.present c i is in
        (found.0, kept_still leaving people i (tidy.staying c i is) ∙ found.1);
    staying = λ c i is. tt;
    once = tidy.once;
    gone = tt;
  }
