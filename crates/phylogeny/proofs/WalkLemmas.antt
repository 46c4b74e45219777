-- A walk down the ids: what is counted when it has come to a bound.
use Rattle.std.proofs.Common.{◌≡◌, ℕ, zero, suc, ◌+◌, ◌-◌, ◌<◌, ◌≤◌, Bool, true, false, cond, eqb, ltb, List, [], ◌∷◌, Option, Some, None, length, get_or, set, max, add-one, refl, sym, ap, ◌∙◌, arith}
use Rattle.std.specs.Prelude.{count_by, filter, nat_le}
use Rattle.phylogeny.proofs.Prelude.{AllByRecursion, range_with_len, reduce, option_map_or, option_or, length-set, nat_tests, common_steps, count_by-le-length, length-filter, Shape, Dweller, Pedigree, ancestors_of, branches_of, descends_from, is_branch, is_child, is_common, is_kept_id, kept_ids_of, most_recent_common_ancestor, AreBelow, HaveLowerIds, living_from, parent_at, pedigree_with, all_filtered}
use Rattle.phylogeny.proofs.AncestorLemmas.{line_head}
use Rattle.phylogeny.proofs.CountLemmas.{all_counted, any_counted, bit, count_cons, count_handed, count_no, count_same}
use Rattle.phylogeny.proofs.SlotLemmas.{dweller_at, here}
use Rattle.phylogeny.proofs.TokenLemmas.{handed, stops, stops-among, stops_here}
use Rattle.phylogeny.proofs.FilterLemmas.{range_above, filter_length, filter_few, greatest_filtered}

-- one id more is kept: with these many children, and common to all or not
pub record Keeps (id children : ℕ) (shared : Bool) (old new : Shape) : Type 0 where
  pub kept : new.kept ≡ old.kept + 1
  pub branches : new.branches ≡ old.branches + bit (nat_le 2 children)
  pub common : new.common ≡ cond shared (option_or old.common (Some id)) old.common

module _ (parents standing : List (Option ℕ)) where
  -- the pedigree of these lists
  abbrev pub tree : Pedigree
  tree = pedigree_with parents standing

  -- who lives, in order of cells
  abbrev pub everybody : List Dweller
  everybody = living_from 0 standing

  -- the ids from a bound on that are kept
  abbrev pub kept_from : ℕ → List ℕ
  kept_from bound = filter (is_kept_id tree) (range_with_len bound (length parents - bound))

  -- how many of those who live are counted at an id, when the walk has come to a bound
  abbrev pub stopped : ℕ → ℕ → ℕ
  stopped bound id = count_by (λ who. stops bound id (ancestors_of tree who.id)) everybody

  -- what the walk has counted when it has come to a bound
  pub record IsWalked (bound : ℕ) (descendants children : List ℕ) (shape : Shape) : Type 0 where
    pub as_many : length descendants ≡ length parents
    pub as_many_children : length children ≡ length parents
    pub descendants_at : (id : ℕ) → id < bound → get_or descendants id 0 ≡ stopped bound id
    pub children_at : (id : ℕ) → id < bound
        → get_or children id 0 ≡ count_by (is_child tree id) (kept_from bound)
    pub common_is : shape.common ≡ reduce max (filter (is_common tree) (kept_from bound))
    pub kept_is : shape.kept ≡ length (kept_from bound)
    pub branches_is : shape.branches ≡ length (filter (is_branch tree) (kept_from bound))

  -- the ids from a bound on are the bound and the ids above it
  range_next : (bound : ℕ) → bound < length parents
      → range_with_len bound (length parents - bound)
      ≡ bound ∷ range_with_len (bound + 1) (length parents - (bound + 1))
  range_next bound within =
      let e : length parents - bound ≡ suc (length parents - (bound + 1)) = omega arith in
      ap (range_with_len bound) e

  -- a bound that is kept stands before the kept ids above it
  kept_yes : (bound : ℕ) → bound < length parents → is_kept_id tree bound ≡ true
      → kept_from bound ≡ bound ∷ kept_from (bound + 1)
  kept_yes bound within kept = rw (range_next bound within, kept) refl

  -- where a bound is not kept, the kept ids from it on are those above it
  kept_no : (bound : ℕ) → bound < length parents → is_kept_id tree bound ≡ false
      → kept_from bound ≡ kept_from (bound + 1)
  kept_no bound within left = rw (range_next bound within, left) refl

  -- no kept id above a bound is below it
  kept_above : (bound : ℕ) → AllByRecursion (λ id. bound ≤ id) (kept_from (bound + 1))
  kept_above bound = all_filtered (λ id. bound ≤ id) (is_kept_id tree)
      (range_with_len (bound + 1) (length parents - (bound + 1)))
      (range_above bound (bound + 1) (length parents - (bound + 1)) (omega arith))

  -- there are no more kept ids from a bound on than ids
  pub kept_few : (bound : ℕ) → length (kept_from bound) ≤ length parents - bound
  kept_few bound = filter_few (is_kept_id tree) bound (length parents - bound)

  -- no more are counted anywhere than live
  pub stopped_few : (bound id : ℕ) → stopped bound id ≤ length everybody
  stopped_few bound id =
      count_by-le-length (λ who. stops bound id (ancestors_of tree who.id)) everybody

  -- the kept ids of the pedigree are those from 0 on
  pub kept_is_all : kept_ids_of tree ≡ kept_from 0
  unfolding kept_ids_of
  kept_is_all = ap (λ (n : ℕ). filter (is_kept_id tree) (range_with_len 0 n)) (omega arith)

  module _ (older : HaveLowerIds parents) where
    -- all who descend from an id are counted there when the walk comes to it
    pub stopped_here : (id : ℕ) → stopped (id + 1) id ≡ count_by (descends_from tree id) everybody
    stopped_here id = count_same (λ who. stops (id + 1) id (ancestors_of tree who.id))
        (descends_from tree id) (λ who. stops-among (parent_at parents) older who.id who.id id)
        everybody

    -- an id is kept where somebody is counted at it when the walk comes to it
    kept_test : (id : ℕ) → is_kept_id tree id ≡ ltb 0 (stopped (id + 1) id)
    kept_test id =
        any_counted (descends_from tree id) everybody ∙ ap (ltb 0) (sym (stopped_here id))

    -- an id is common where all who live are counted at it then
    common_test : (id : ℕ) → is_common tree id ≡ eqb (stopped (id + 1) id) (length everybody)
    common_test id = all_counted (descends_from tree id) everybody
        ∙ ap (λ (n : ℕ). eqb n (length everybody)) (sym (stopped_here id))

    -- when the walk goes on from a bound, those counted there are counted at its parent
    stopped_next : (bound id : ℕ) → id < bound
        → stopped bound id ≡ stopped (bound + 1) id + cond (is_child tree id bound)
        (stopped (bound + 1) bound) 0
    stopped_next bound id below =
        count_handed (λ who. stops bound id (ancestors_of tree who.id))
        (λ who. stops (bound + 1) id (ancestors_of tree who.id))
        (λ who. stops (bound + 1) bound (ancestors_of tree who.id)) (is_child tree id bound)
        (λ who. handed (parent_at parents) older who.id who.id bound id (omega arith) below)
        everybody

    -- no id up to this one is a child of it
    not_child : (id child : ℕ) → child ≤ id → is_child tree id child ≡ false
    not_child id child within =
        grind (arith, common_steps, older child)

    -- all kept children of an id are among the kept ids from any bound up to the next id
    children_from : (id bound : ℕ) → bound ≤ id + 1 → bound ≤ length parents
        → count_by (is_child tree id) (kept_from 0) ≡ count_by (is_child tree id) (kept_from bound)
    children_from id zero few within = refl
    children_from id (suc bound) few within =
        let step : count_by (is_child tree id) (kept_from bound)
        ≡ count_by (is_child tree id) (kept_from (bound + 1)) =
        grind (
          arith,
          kept_yes bound (omega arith),
          kept_no bound (omega arith),
          count_no (is_child tree id) bound (kept_from (bound + 1))
              (not_child id bound (omega arith)),
        ) in
        rw (children_from id bound (omega arith) (omega arith), step, add-one)

    -- an id is a branch where it has at least two children among the kept ids above it
    branch_test : (id : ℕ) → id < length parents
        → is_branch tree id ≡ nat_le 2 (count_by (is_child tree id) (kept_from (id + 1)))
    branch_test id within = ap (nat_le 2)
        (ap (count_by (is_child tree id)) kept_is_all
        ∙ children_from id (id + 1) (omega arith) (omega arith))

    -- nobody who lives descends from an id
    pub walked_over : {descendants children : List ℕ} {shape : Shape} → (id : ℕ)
        → id < length parents → get_or descendants id 0 ≡ 0
        → IsWalked (id + 1) descendants children shape → IsWalked id descendants children shape
    walked_over id within none walked =
        let nobody : stopped (id + 1) id ≡ 0 =
        sym (walked.descendants_at id (omega arith)) ∙ none in
        let left : is_kept_id tree id ≡ false = kept_test id ∙ ap (ltb 0) nobody in
        let same = sym (kept_no id within left) in
        record {
          as_many = walked.as_many;
          as_many_children = walked.as_many_children;
          descendants_at = λ other below.
              let before = walked.descendants_at other (omega arith) in
              grind (arith, common_steps, before, stopped_next id other below, nobody);
          children_at = λ other below. walked.children_at other (omega arith)
              ∙ ap (count_by (is_child tree other)) same;
          common_is = walked.common_is
              ∙ ap (λ (ids : List ℕ). reduce max (filter (is_common tree) ids)) same;
          kept_is = walked.kept_is ∙ ap length same;
          branches_is =
              walked.branches_is ∙ ap (λ (ids : List ℕ). length (filter (is_branch tree) ids)) same;
        }

    module _ {id : ℕ} {descendants children : List ℕ} {old new : Shape}
        (within : id < length parents) (some : 0 < get_or descendants id 0)
        (walked : IsWalked (id + 1) descendants children old)
        (keeps : Keeps id (get_or children id 0) (eqb (get_or descendants id 0) (length everybody))
        old new) where
      -- the walk's count at the id is how many of those who live are counted at it
      here_is : get_or descendants id 0 ≡ stopped (id + 1) id
      here_is = walked.descendants_at id (omega arith)

      -- the id is kept, in front of those above it
      kept_here : kept_from id ≡ id ∷ kept_from (id + 1)
      kept_here =
          let more : ltb 0 (stopped (id + 1) id) ≡ true = grind (arith, nat_tests, here_is) in
          kept_yes id within (kept_test id ∙ more)

      -- the new common ancestor is the greatest common id of the kept ones from this id on
      common_here : new.common ≡ reduce max (filter (is_common tree) (kept_from id))
      common_here =
          rw (
            kept_here,
            greatest_filtered (is_common tree) id (kept_from (id + 1)) (kept_above id),
            common_test id,
            ← here_is,
            ← walked.common_is,
          ) keeps.common

      -- the new number of kept ids is that of the kept ones from this id on
      length_here : new.kept ≡ length (kept_from id)
      length_here = omega (arith, keeps.kept, walked.kept_is, ap length kept_here)

      -- the new number of branches is that of the kept ids from this id on
      branches_here : new.branches ≡ length (filter (is_branch tree) (kept_from id))
      branches_here =
          rw (
            kept_here,
            filter_length (is_branch tree) id (kept_from (id + 1)),
            branch_test id within,
            ← walked.children_at id (omega arith),
            ← walked.branches_is,
          ) keeps.branches

      -- at a lower id as many are counted as before, and those of this id where it is a child
      descendants_next : (other : ℕ) → other < id
          → stopped id other ≡ get_or descendants other 0 + cond (is_child tree other id)
          (get_or descendants id 0) 0
      descendants_next other below =
          rw (walked.descendants_at other (omega arith), here_is) (stopped_next id other below)

      -- a lower id has as many kept children as before, and this id where it is a child
      children_next : (other : ℕ) → other < id
          → count_by (is_child tree other) (kept_from id)
          ≡ get_or children other 0 + bit (is_child tree other id)
      children_next other below =
          rw (kept_here, count_cons (is_child tree other) id (kept_from (id + 1)))
          (omega (arith, walked.children_at other (omega arith)))

      -- a founder hands nothing on
      pub walked_founder : parent_at parents id ≡ None → IsWalked id descendants children new
      walked_founder founder = record {
        as_many = walked.as_many;
        as_many_children = walked.as_many_children;
        descendants_at = λ other below.
            grind (arith, common_steps, descendants_next other below, not_of other);
        children_at = λ other below.
            grind (arith, common_steps, children_next other below, not_of other);
        common_is = common_here;
        kept_is = length_here;
        branches_is = branches_here;
      }
        where
          not_of : (other : ℕ) → is_child tree other id ≡ false
          not_of other =
              ap (λ (o : Option ℕ). option_map_or (λ above. eqb above other) o false) founder

      -- anybody else hands on to its parent
      pub walked_child : (above : ℕ) → parent_at parents id ≡ Some above
          → IsWalked id (set descendants above
          (get_or descendants above 0 + get_or descendants id 0))
          (set children above (get_or children above 0 + 1)) new
      walked_child above is = record {
        as_many = length-set descendants above
            (get_or descendants above 0 + get_or descendants id 0) ∙ walked.as_many;
        as_many_children =
            length-set children above (get_or children above 0 + 1) ∙ walked.as_many_children;
        descendants_at = λ other below.
            grind (arith, common_steps, descendants_next other below, child_is other, there);
        children_at = λ other below.
            grind (arith, common_steps, children_next other below, child_is other, there_too);
        common_is = common_here;
        kept_is = length_here;
        branches_is = branches_here;
      }
        where
          lower : above < id
          lower = older id above is

          there : above < length descendants
          there = omega (arith, lower, walked.as_many)

          there_too : above < length children
          there_too = omega (arith, lower, walked.as_many_children)

          child_is : (other : ℕ) → is_child tree other id ≡ eqb above other
          child_is other = ap (λ (o : Option ℕ). option_map_or (λ a. eqb a other) o false) is

    -- what is counted stays within the numbers of those who live and of the ids
    pub descendants_few : {descendants children : List ℕ} {shape : Shape} → (id above : ℕ)
        → parent_at parents id ≡ Some above → IsWalked (id + 1) descendants children shape
        → get_or descendants above 0 + get_or descendants id 0 ≤ length everybody
    descendants_few id above is walked =
        let lower = older id above is in
        let child : is_child tree above id ≡ true =
        ap (λ (o : Option ℕ). option_map_or (λ a. eqb a above) o false) is
        ∙ grind (arith, nat_tests) in
        let next = stopped_next id above lower
        ∙ ap (λ (b : Bool). stopped (id + 1) above + cond b (stopped (id + 1) id) 0) child in
        omega (
          arith,
          next,
          stopped_few id above,
          walked.descendants_at above (omega (arith, lower)),
          walked.descendants_at id (omega arith),
        )

    -- a parent of this id has no more children so far than there are ids above this one
    pub children_few : {descendants children : List ℕ} {shape : Shape} → (id above : ℕ)
        → parent_at parents id ≡ Some above → IsWalked (id + 1) descendants children shape
        → get_or children above 0 ≤ length parents - (id + 1)
    children_few id above is walked =
        let lower = older id above is in
        omega (
          arith,
          walked.children_at above (omega (arith, lower)),
          count_by-le-length (is_child tree above) (kept_from (id + 1)),
          kept_few (id + 1),
        )

  -- no more ids are kept than were walked over, and no more are branches than are kept
  pub shape_few : {bound : ℕ} {descendants children : List ℕ} {shape : Shape}
      → IsWalked bound descendants children shape → (shape.kept ≤ length parents - bound)
      × (shape.branches ≤ shape.kept)
  shape_few {bound = bound} walked = (
    omega (arith, walked.kept_is, kept_few bound),
    omega (
      arith,
      walked.kept_is,
      walked.branches_is,
      length-filter (is_branch tree) (kept_from bound),
      count_by-le-length (is_branch tree) (kept_from bound),
    ),
  )

  -- before the walk each who lives is counted at its own id
  stopped_first : (bound id cell : ℕ) (slots : List (Option ℕ))
      → ((k who : ℕ) → get_or slots k None ≡ Some who → who < bound)
      → count_by (λ who. stops bound id (ancestors_of tree who.id)) (living_from cell slots)
      ≡ here id (living_from cell slots)
  stopped_first bound id cell [] below = refl
  stopped_first bound id cell (None ∷ slots) below =
      stopped_first bound id (suc cell) slots (λ k who is. below (suc k) who is)
  stopped_first bound id cell (Some who ∷ slots) below =
      let h = line_head (parent_at parents) who who in
      let at_itself : stops bound id (ancestors_of tree who) ≡ eqb who id =
      ap (stops bound id) h.1 ∙ stops_here bound id who h.0 (below zero who refl) in
      let rest = stopped_first bound id (suc cell) slots (λ k w is. below (suc k) w is) in
      rw (
        count_cons (λ w. stops bound id (ancestors_of tree w.id)) (dweller_at cell who)
            (living_from (suc cell) slots),
        at_itself,
        rest,
      )
      (sym (count_cons (λ w. eqb w.id id) (dweller_at cell who) (living_from (suc cell) slots)))

  -- no id is kept from a bound on that is past all ids
  none_kept : (bound : ℕ) → length parents ≤ bound → kept_from bound ≡ []
  none_kept bound past = let e : length parents - bound ≡ 0 = omega arith in
      ap (λ (n : ℕ). filter (is_kept_id tree) (range_with_len bound n)) e

  -- before the walk each who lives is counted at its own id, and nothing else is counted
  pub walked_start : (bound : ℕ) (descendants children : List ℕ) (shape : Shape)
      → bound ≡ length parents → AreBelow (length parents) standing
      → length descendants ≡ length parents → length children ≡ length parents
      → ((id : ℕ) → id < length parents → get_or descendants id 0 ≡ here id everybody)
      → ((id : ℕ) → id < length parents → get_or children id 0 ≡ 0)
      → shape.common ≡ None → shape.kept ≡ 0 → shape.branches ≡ 0
      → IsWalked bound descendants children shape
  walked_start bound descendants children shape start among as_many as_many_children counts zeros
      common kept branches =
      let none = sym (none_kept bound (omega arith)) in
      record {
        as_many = as_many;
        as_many_children = as_many_children;
        descendants_at = λ id below. counts id (omega arith)
            ∙ sym (stopped_first bound id 0 standing
            (λ k who is. let b = among k who is in omega arith));
        children_at = λ id below. zeros id (omega arith) ∙ ap (count_by (is_child tree id)) none;
        common_is = common ∙ ap (λ (ids : List ℕ). reduce max (filter (is_common tree) ids)) none;
        kept_is = kept ∙ ap length none;
        branches_is = branches ∙ ap (λ (ids : List ℕ). length (filter (is_branch tree) ids)) none;
      }

  -- after the walk the common ancestor is the most recent one of the pedigree
  pub walked_common : {descendants children : List ℕ} {shape : Shape}
      → IsWalked 0 descendants children shape → shape.common ≡ most_recent_common_ancestor tree
  unfolding most_recent_common_ancestor
  walked_common walked = walked.common_is
      ∙ ap (λ (ids : List ℕ). reduce max (filter (is_common tree) ids)) (sym kept_is_all)

  -- after the walk as many ids are kept as the pedigree keeps
  pub walked_kept : {descendants children : List ℕ} {shape : Shape}
      → IsWalked 0 descendants children shape → shape.kept ≡ length (kept_ids_of tree)
  walked_kept walked = walked.kept_is ∙ ap length (sym kept_is_all)

  -- after the walk there are as many branches as the pedigree has
  pub walked_branches : {descendants children : List ℕ} {shape : Shape}
      → IsWalked 0 descendants children shape → shape.branches ≡ length (branches_of tree)
  unfolding branches_of
  walked_branches walked = walked.branches_is
      ∙ ap (λ (ids : List ℕ). length (filter (is_branch tree) ids)) (sym kept_is_all)
