-- What is kept of all organisms ever, as some come and some die.
use Rattle.std.proofs.Common.{◌≡◌, ◌↔◌, inl, inr, ◌∙◌, refl, ap, subst, ℕ, zero, suc, ◌<◌, Bool, true, cond, List, [], ◌∷◌, ◌++◌, get_or, Some, None, eq-eqb, ne_eqb, arith}
use Rattle.std.specs.Prelude.{All, Contains, filter, filter_map, option_and_then}
use Rattle.lineage_log.proofs.Prelude.{option_map_or, cases_eq, cond-true, common_steps, reverse-append, filter-append, list_any-append, Link, AreOlder, ancestor_ids_of, ancestors_within, is_in_line, is_kept, kept_of, line_of_descent, link_of, parent_of}
use Rattle.lineage_log.proofs.AncestorLemmas.{AreLeft, any_found, cases_Option, found_any, kept_parent, kept_living, line_is, same_ancestors}
use Rattle.lineage_log.proofs.KeptLemmas.{filter_alike, find_left}

-- ---- fewer live

-- who is kept by some is kept by more
still_kept : (everyone : List Link) (living others : List ℕ) (id : ℕ)
    → ((id : ℕ) → Contains living id → Contains others id) → is_kept everyone living id ≡ true
    → is_kept everyone others id ≡ true
still_kept everyone living others id among h =
    let one = found_any (is_in_line everyone id) living h in
    any_found (is_in_line everyone id) others one.0 (among one.0 one.1) one.2

module _ (everyone : List Link) (living : List ℕ) (older : AreOlder everyone) where
  -- the ids that are kept
  abbrev kept_id : ℕ → Bool
  kept_id id = is_kept everyone living id

  -- who is kept has its link
  link_kept : (id : ℕ) → is_kept everyone living id ≡ true
      → link_of (kept_of everyone living) id ≡ link_of everyone id
  unfolding kept_of
  link_kept id is = find_left kept_id id everyone
      ∙ cond-true (is_kept everyone living id) (link_of everyone id) None is

  -- with each that is kept its parent is
  left_kept : AreLeft (parent_of everyone) (parent_of (kept_of everyone living)) kept_id
  left_kept = record {
    same = λ id is. ap (option_and_then (λ (link : Link). link.parent)) (link_kept id is);
    closed = λ id above is parent. kept_parent (parent_of everyone) older living id above parent is;
  }

  -- who is kept has the ancestors that it had
  ancestors_kept : (id : ℕ) → is_kept everyone living id ≡ true
      → ancestor_ids_of (kept_of everyone living) id ≡ ancestor_ids_of everyone id
  ancestors_kept id is = same_ancestors (parent_of everyone) (parent_of (kept_of everyone living))
      kept_id older left_kept id id is

  -- a test of some that are kept
  any_kept : (id : ℕ) (left : List ℕ)
      → ((one : ℕ) → Contains left one → is_kept everyone living one ≡ true)
      → is_kept (kept_of everyone living) left id ≡ is_kept everyone left id
  any_kept id [] each = refl
  any_kept id (one ∷ left) each = rw (
    ancestors_kept one (each one (0, omega arith, refl)),
    any_kept id left (λ other is. each other (suc is.0, omega (arith, is.1), is.2)),
  )

  -- once fewer live, what is kept is what is kept of those that were kept
  pub kept_fewer : (left : List ℕ) → ((id : ℕ) → Contains left id → Contains living id)
      → kept_of (kept_of everyone living) left ≡ kept_of everyone left
  unfolding kept_of
  kept_fewer left fewer =
      (λ i. filter (λ (link : Link). any_kept link.id left lives i) (kept_of everyone living))
      ∙ both everyone
    where
      lives : (one : ℕ) → Contains left one → is_kept everyone living one ≡ true
      lives one is = kept_living (parent_of everyone) older living one (fewer one is)

      both : (links : List Link)
          → filter (λ (link : Link). is_kept everyone left link.id)
          (filter (λ (link : Link). is_kept everyone living link.id) links)
          ≡ filter (λ (link : Link). is_kept everyone left link.id) links
      both [] = refl
      both (link ∷ links) =
          grind (arith, common_steps, both links, still_kept everyone left living link.id fewer)

  -- the links of an id's ancestors stay
  links_within : (n id : ℕ) → is_kept everyone living id ≡ true
      → filter_map (link_of (kept_of everyone living)) (ancestors_within n (parent_of everyone) id)
      ≡ filter_map (link_of everyone) (ancestors_within n (parent_of everyone) id)
  links_within zero id is = rw (link_kept id is)
  links_within (suc n) id is = rw (link_kept id is) (elim (cases_Option (parent_of everyone id)) [
    | inl none ↦ rw none
    | inr some ↦ rw (
      some.1,
      links_within n some.0 (kept_parent (parent_of everyone) older living id some.0 some.1 is),
    )
  ])

  -- the links of the living stay
  pub link_stays : (id : ℕ) → Contains living id
      → link_of (kept_of everyone living) id ≡ link_of everyone id
  link_stays id lives = link_kept id (kept_living (parent_of everyone) older living id lives)

  -- so do the lines of the living
  pub line_kept : (id : ℕ) → Contains living id
      → line_of_descent (kept_of everyone living) id ≡ line_of_descent everyone id
  unfolding line_of_descent
  line_kept id lives =
      let is = kept_living (parent_of everyone) older living id lives in
      rw (ancestors_kept id is, links_within id id is)

-- ---- one more comes

-- a link behind others, found by another id
find_before : (links : List Link) (link : Link) (id : ℕ) → (link.id ≡ id → ⊥)
    → link_of (links ++ link ∷ []) id ≡ link_of links id
find_before [] link id apart = rw (ne_eqb link.id id apart)
find_before (first ∷ links) link id apart = rw (find_before links link id apart)

-- and by its own
find_newcomer : (links : List Link) (link : Link) → All (λ (other : Link). other.id < link.id) links
    → link_of (links ++ link ∷ []) link.id ≡ Some link
find_newcomer [] link newest = rw (eq-eqb link.id link.id refl)
find_newcomer (first ∷ links) link newest =
    let low : first.id < link.id = newest 0 first (omega arith) in
    rw (ne_eqb first.id link.id (λ same. omega (arith, low, same)))
    (find_newcomer links link (λ k d within. newest (suc k) d (omega (arith, within))))

module _ (everyone : List Link) (living : List ℕ) (link : Link) (older : AreOlder everyone)
    (newest : All (λ (other : Link). other.id < link.id) everyone)
    (below : All (λ id. id < link.id) living)
    (parent : (above : ℕ) → link.parent ≡ Some above → Contains living above) where
  -- the links of all organisms ever, with the newcomer's behind them
  abbrev more : List Link
  more = everyone ++ link ∷ []

  -- those before it have the parents that they had
  parent_before : (id : ℕ) → id < link.id → parent_of more id ≡ parent_of everyone id
  parent_before id low = ap (option_and_then (λ (l : Link). l.parent))
      (find_before everyone link id (λ same. omega (arith, low, same)))

  -- those before it have the ancestors that they had
  ancestors_before : (n id : ℕ) → id < link.id
      → ancestors_within n (parent_of more) id ≡ ancestors_within n (parent_of everyone) id
  ancestors_before zero id low = refl
  ancestors_before (suc n) id low =
      grind (arith, common_steps, parent_before id low, older id, ancestors_before n)

  -- the living have lower ids
  contains_below : (id : ℕ) → Contains living id → id < link.id
  contains_below id is = subst (λ n. n < link.id) is.2 (below is.0 id is.1)

  -- a newcomer is older than nobody
  pub older_more : AreOlder more
  older_more id above is = elim (cases_eq link.id id) [
    | inl same ↦
        let here : link.parent ≡ Some above =
        rw (← same, find_newcomer everyone link newest) at is in
        omega (arith, same, contains_below above (parent above here))
    | inr apart ↦ older id above (rw (find_before everyone link id apart) at is)
  ]

  -- who is tested before it is tested as before
  any_before : (id : ℕ) (ids : List ℕ) → All (λ one. one < link.id) ids
      → is_kept more ids id ≡ is_kept everyone ids id
  any_before id [] low = refl
  any_before id (one ∷ ids) low = rw (
    ancestors_before one one (low 0 one (omega arith)),
    any_before id ids (λ k d within. low (suc k) d (omega (arith, within))),
  )

  -- who is in its line but itself is kept
  in_line : (id : ℕ) → id < link.id → is_in_line more id link.id ≡ true
      → is_kept everyone living id ≡ true
  in_line id low h =
      let behind = rw (
        line_is (parent_of more) older_more link.id,
        find_newcomer everyone link newest,
        ne_eqb link.id id (λ same. omega (arith, low, same)),
      ) at h in
      elim (cases_Option link.parent) [
        | inl none ↦ absurd (let nobody = rw none at behind in cc)
        | inr some ↦
            let lives = parent some.0 some.1 in
            any_found (is_in_line everyone id) living some.0 lives
            (rw (some.1, ancestors_before some.0 some.0 (contains_below some.0 lives)) at behind)
      ]

  -- who was kept is kept, and nobody else of those before it
  kept_before : (id : ℕ) → id < link.id
      → is_kept more (living ++ link.id ∷ []) id ≡ is_kept everyone living id
  kept_before id low =
      rw (list_any-append (is_in_line more id) living (link.id ∷ []), any_before id living below)
      (grind (arith, common_steps, in_line id low))

  -- the newcomer is kept
  kept_itself : is_kept more (living ++ link.id ∷ []) link.id ≡ true
  kept_itself =
      kept_living (parent_of more) older_more (living ++ link.id ∷ []) link.id (last living) where
        last : (ids : List ℕ) → Contains (ids ++ link.id ∷ []) link.id
        last [] = (0, omega arith, refl)
        last (one ∷ ids) = let rest = last ids in (suc rest.0, omega (arith, rest.1), rest.2)

  -- what is kept with it
  pub kept_more : kept_of more (living ++ link.id ∷ []) ≡ kept_of everyone living ++ link ∷ []
  unfolding kept_of
  kept_more =
      filter-append (λ (l : Link). is_kept more (living ++ link.id ∷ []) l.id) everyone (link ∷ [])
      ∙ (λ i. filter_alike (λ (l : Link). is_kept more (living ++ link.id ∷ []) l.id)
      (λ (l : Link). is_kept everyone living l.id) everyone
      (λ k d low. kept_before (get_or everyone k d).id (newest k d low)) i
      ++ cond (kept_itself i) (link ∷ []) [])

-- ---- a line comes from a parent's

-- the line of an organism is that of its parent, and itself
pub line_step : (links : List Link) (id : ℕ) (link : Link) → AreOlder links
    → link_of links id ≡ Some link
    → line_of_descent links id ≡ option_map_or (line_of_descent links) link.parent []
    ++ link ∷ []
unfolding line_of_descent
line_step links id link older is =
    rw (line_is (parent_of links) older id, is) (elim (cases_Option link.parent) [
      | inl none ↦ rw none
      | inr some ↦ rw some.1 (reverse-append (_ ∷ [])
          (filter_map (link_of links) (ancestor_ids_of links some.0)))
    ])

-- ---- only who lives decides

-- the same ids keep the same
pub kept_same : (everyone : List Link) (living others : List ℕ)
    → ((id : ℕ) → Contains living id ↔ Contains others id)
    → kept_of everyone living ≡ kept_of everyone others
unfolding kept_of
kept_same everyone living others same =
    λ i. filter (λ (link : Link). alike link.id i) everyone
  where
    alike : (id : ℕ) → is_kept everyone living id ≡ is_kept everyone others id
    alike id = grind (
      arith,
      common_steps,
      still_kept everyone living others id (λ one lives. (same one).0 lives),
      still_kept everyone others living id (λ one lives. (same one).1 lives),
    )
