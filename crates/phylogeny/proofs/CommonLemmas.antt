-- The latest common ancestor is an ancestor of all who live, and no greater id is.
use Rattle.std.proofs.Common.{◌≡◌, ℕ, zero, suc, ◌+◌, ◌-◌, ◌<◌, ◌≤◌, Bool, true, false, eqb, List, [], ◌∷◌, Option, Some, None, length, get_or, max, unwrap_or, refl, sym, ap, subst, arith, inl, inr}
use Rattle.std.specs.Prelude.{All, Contains, filter}
use Rattle.phylogeny.proofs.Prelude.{fold, last_or, list_all, range_with_len, reduce, cases_Bool, eqb-true, nat_tests, common_steps, AllPass-from_list_all, list_all-from_AllPass, ancestors_within, Dweller, Pedigree, descends_from, founding_ancestor_of, is_common, is_kept_id, most_recent_common_ancestor, TellsLatestCommon, AreBelow, IsPedigree, living_from, parent_at, Older, line, any_found, found_any}
use Rattle.std.proofs.lemmas.List.Elements.{All-contains, Contains-get_or}
use Rattle.phylogeny.proofs.AncestorLemmas.{child_root, founder_in, line_head}
use Rattle.phylogeny.proofs.TokenLemmas.{is_among, none_above}
use Rattle.phylogeny.proofs.WalkLemmas.{everybody, kept_from, kept_is_all, tree}
use Rattle.lineage_log.proofs.LivingLemmas.{contains_more}

-- ---- lists of numbers

-- the greatest is among them, and none is greater
fold_greatest : (x : ℕ) (xs : List ℕ) → (is_among (fold max x xs) (x ∷ xs) ≡ true)
    × ((y : ℕ) → is_among y (x ∷ xs) ≡ true → y ≤ fold max x xs)
fold_greatest x [] = (grind (arith, common_steps), λ y is. grind (arith, common_steps))
fold_greatest x (z ∷ zs) =
    let so = fold_greatest (max x z) zs in (
      grind (arith, common_steps, so.0),
      λ y is. grind (arith, common_steps, so.1 y, so.1 (max x z)),
    )

-- what is found as the greatest of a list is among its numbers, and none of them is greater
greatest_is : (xs : List ℕ) (m : ℕ) → reduce max xs ≡ Some m → (is_among m xs ≡ true)
    × ((y : ℕ) → is_among y xs ≡ true → y ≤ m)
greatest_is [] m is = absurd cc
greatest_is (x ∷ xs) m is =
    let e : fold max x xs ≡ m = cc in
    subst (λ (n : ℕ). (is_among n (x ∷ xs) ≡ true) × ((y : ℕ) → is_among y (x ∷ xs) ≡ true → y ≤ n))
    e (fold_greatest x xs)

-- only an empty list has no greatest number
no_greatest : (xs : List ℕ) → reduce max xs ≡ None → xs ≡ []
no_greatest [] is = refl
no_greatest (x ∷ xs) is = absurd cc

-- what a filter leaves
filter_holds : (p : ℕ → Bool) (xs : List ℕ) (x : ℕ) → is_among x (filter p xs) ≡ true
    → (p x ≡ true) × (is_among x xs ≡ true)
filter_holds p [] x is = absurd cc
filter_holds p (y ∷ ys) x is = (
  grind (arith, common_steps, filter_holds p ys x),
  grind (arith, common_steps, filter_holds p ys x),
)

-- a number of a list that passes a test is left by the filter
filter_keeps : (p : ℕ → Bool) (xs : List ℕ) (x : ℕ) → is_among x xs ≡ true → p x ≡ true
    → is_among x (filter p xs) ≡ true
filter_keeps p [] x is passes = absurd cc
filter_keeps p (y ∷ ys) x is passes = grind (arith, common_steps, filter_keeps p ys x)

-- a range has each number from its first up to before its end
range_has : (from len x : ℕ) → from ≤ x → x < from + len
    → is_among x (range_with_len from len) ≡ true
range_has from zero x above below = absurd (omega arith)
range_has from (suc len) x above below = grind (arith, common_steps, range_has (from + 1) len x)

-- the last number of a list that is not empty is among its numbers
last_among : (x : ℕ) (xs : List ℕ) → is_among (unwrap_or (last_or (Some x) xs) 0) (x ∷ xs) ≡ true
last_among x [] = grind (arith, common_steps)
last_among x (y ∷ ys) = grind (arith, common_steps, last_among y ys)

-- ---- lists of those who live

-- where not all members pass a test, there is one that fails
first_fails : {X : Type 0} (p : X → Bool) (xs : List X) → list_all p xs ≡ false
    → (x : X) × Contains xs x × (p x ≡ false)
first_fails p [] is = absurd cc
first_fails {X} p (x ∷ xs) is = elim (cases_Bool (p x)) [
  | inl passes ↦
      let so = first_fails p xs (rw passes at is) in (so.0, contains_more so.0 x xs so.1, so.2)
  | inr fails ↦ (x, (0, omega arith, refl), fails)
]

-- where the test says that all pass, each member does
each_passes : {X : Type 0} (p : X → Bool) (xs : List X) → list_all p xs ≡ true → (x : X)
    → Contains xs x → p x ≡ true
each_passes p xs all x there =
    All-contains (λ y. p y ≡ true) xs x (AllPass-from_list_all p xs all) there

-- what holds of each member of a list holds of all its items
All-from_contained : {X : Type 0} (P : X → Type 0) (xs : List X) → ((x : X) → Contains xs x → P x)
    → All P xs
All-from_contained P xs each = λ k d within. each (get_or xs k d) (Contains-get_or xs k d within)

-- who lives has an id below the next one
living_below : (bound cell : ℕ) (slots : List (Option ℕ)) → AreBelow bound slots → (who : Dweller)
    → Contains (living_from cell slots) who → who.id < bound
living_below bound cell [] below who there = absurd (omega (arith, there.1))
living_below bound cell (None ∷ slots) below who there =
    living_below bound (suc cell) slots (λ c id is. below (suc c) id is) who there
living_below bound cell (Some id ∷ slots) below who (zero, within, is) =
    let e : id ≡ who.id = ap (λ (d : Dweller). d.id) is in
    subst (λ (n : ℕ). n < bound) e (below zero id refl)
living_below bound cell (Some id ∷ slots) below who (suc k, within, is) =
    living_below bound (suc cell) slots (λ c i e. below (suc c) i e) who (k, omega arith, is)

-- ---- lines

module _ (parent_of : ℕ → Option ℕ) (older : Older parent_of) where
  -- no id in the line of an id is greater than this one
  line_below : (n id at : ℕ) → is_among at (ancestors_within n parent_of id) ≡ true → at ≤ id
  line_below n id at is = grind (arith, common_steps, none_above parent_of older n id at)

  -- who stands in a line has its founder
  founder_same : (n id at : ℕ) → id ≤ n → is_among at (ancestors_within n parent_of id) ≡ true
      → founder_in (line parent_of id) ≡ founder_in (line parent_of at)
  founder_same zero id at few is = grind (arith, common_steps)
  founder_same (suc n) id at few is =
      let root = λ (above : ℕ) (some : parent_of id ≡ Some above).
      (child_root parent_of older id above some).1 in
      grind (arith, common_steps, older id, root, λ (above : ℕ). founder_same n above at)

  -- the founder of a line stands in it
  founder_among : (id : ℕ) → is_among (founder_in (line parent_of id)) (line parent_of id) ≡ true
  founder_among id =
      let h = line_head parent_of id id in
      subst (λ (ids : List ℕ). is_among (founder_in ids) ids ≡ true) (sym h.1) (last_among id h.0)

-- ---- a pedigree

module _ (parents standing : List (Option ℕ)) (sound : IsPedigree parents standing) where
  -- the pedigree of these lists
  abbrev here : Pedigree
  here = tree parents standing

  -- who lives has an id below the number of ids
  lives_below : (who : Dweller) → Contains (everybody parents standing) who
      → who.id < length parents
  lives_below who there = living_below (length parents) 0 standing sound.among who there

  -- each id below the number of ids is among the ids of everyone
  everyone_has : (id : ℕ) → id < length parents
      → is_among id (range_with_len 0 (length parents - 0)) ≡ true
  everyone_has id within = range_has 0 (length parents - 0) id (omega arith) (omega arith)

  -- an id in the line of everybody is found among the kept ones, if somebody lives
  common_is_found : (id : ℕ) (who : Dweller) → Contains (everybody parents standing) who
      → is_common here id ≡ true
      → is_among id (filter (is_common here) (kept_from parents standing 0)) ≡ true
  common_is_found id who lives common =
      let descends =
      each_passes (descends_from here id) (everybody parents standing) common who lives in
      let bound = lives_below who lives in
      let below = line_below (parent_at parents) sound.older who.id who.id id descends in
      let kept =
      any_found (descends_from here id) (everybody parents standing) who lives descends in
      let in_kept = filter_keeps (is_kept_id here) (range_with_len 0 (length parents - 0)) id
      (everyone_has id (omega (arith, bound, below))) kept in
      filter_keeps (is_common here) (kept_from parents standing 0) id in_kept common

  -- the greatest common id of the kept ones is the latest common ancestor
  some_is_latest : (id : ℕ) → reduce max (filter (is_common here) (kept_from parents standing 0))
      ≡ Some id → TellsLatestCommon here (Some id)
  some_is_latest id is =
      let greatest = greatest_is (filter (is_common here) (kept_from parents standing 0)) id is in
      let among = filter_holds (is_common here) (kept_from parents standing 0) id greatest.0 in
      let kept = filter_holds (is_kept_id here) (range_with_len 0 (length parents - 0))
      id among.1 in
      let someone = found_any (descends_from here id) (everybody parents standing) kept.0 in (
        among.0,
        λ other shared. greatest.1 other (common_is_found other someone.0 someone.1 shared),
        All-from_contained
            (λ who. founding_ancestor_of here who.id ≡ founding_ancestor_of here id)
            (everybody parents standing) (λ who lives.
            founder_same (parent_at parents) sound.older who.id who.id id (omega arith)
            (each_passes (descends_from here id) (everybody parents standing) among.0 who
            lives)),
      )

  -- the second has the same founder as the first
  abbrev same_founder : Dweller → Dweller → Bool
  same_founder one other = eqb (founding_ancestor_of here other.id)
      (founding_ancestor_of here one.id)

  -- where all have one founder, it is common
  founder_is_common : (who : Dweller)
      → list_all (same_founder who) (everybody parents standing) ≡ true
      → is_common here (founding_ancestor_of here who.id) ≡ true
  founder_is_common who all =
      list_all-from_AllPass (descends_from here (founding_ancestor_of here who.id))
      (everybody parents standing)
      (All-from_contained (λ other. descends_from here (founding_ancestor_of here who.id) other
      ≡ true)
      (everybody parents standing) (λ other lives.
      let one : founding_ancestor_of here other.id ≡ founding_ancestor_of here who.id =
      eqb-true (founding_ancestor_of here other.id) (founding_ancestor_of here who.id)
      (each_passes (same_founder who) (everybody parents standing) all other lives) in
      subst (λ (f : ℕ). is_among f (line (parent_at parents) other.id) ≡ true) one
      (founder_among (parent_at parents) sound.older other.id)))

  -- where no kept id is common, nobody lives, or two who live have different founders
  none_by : (living : List Dweller) → everybody parents standing ≡ living
      → filter (is_common here) (kept_from parents standing 0) ≡ []
      → TellsLatestCommon here None
  none_by [] is none = inl is
  none_by (who ∷ others) is none =
      let lives : Contains (everybody parents standing) who = rw is (0, omega arith, refl) in
      elim (cases_Bool (list_all (same_founder who) (everybody parents standing))) [
        | inl all ↦
            let found =
            common_is_found (founding_ancestor_of here who.id) who lives
            (founder_is_common who all) in
            let there : is_among (founding_ancestor_of here who.id) [] ≡ true =
            rw none at found in
            absurd cc
        | inr not_all ↦
            let fails = first_fails (same_founder who) (everybody parents standing) not_all in
            inr (
              fails.0,
              who,
              fails.1,
              lives,
              λ same.
                  let t : same_founder who fails.0 ≡ true = grind (arith, nat_tests) in absurd cc,
            )
      ]

  -- the greatest common id of the kept ones is the latest common ancestor, or there can be none
  tells_by : (common : Option ℕ)
      → reduce max (filter (is_common here) (kept_from parents standing 0)) ≡ common
      → TellsLatestCommon here common
  tells_by (Some id) is = some_is_latest id is
  tells_by None is = none_by (everybody parents standing) refl
      (no_greatest (filter (is_common here) (kept_from parents standing 0)) is)

  -- the most recent common ancestor is the latest common one, or there can be none
  pub tells_latest : TellsLatestCommon here (most_recent_common_ancestor here)
  unfolding most_recent_common_ancestor
  tells_latest = tells_by (most_recent_common_ancestor here)
      (ap (λ (ids : List ℕ). reduce max (filter (is_common here) ids))
      (sym (kept_is_all parents standing)))
