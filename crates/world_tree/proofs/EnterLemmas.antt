-- Those that come in an update enter the tree.
use Rattle.std.proofs.Common.{◌≡◌, ◌↔◌, inl, inr, ⊎_elim, ◌∙◌, sym, ap, subst, ℕ, ◌+◌, ◌<◌, ◌≤◌, List, [], ◌∷◌, ◌++◌, length, take, drop, get_or, Some, arith, add-one}
use Rattle.std.specs.Prelude.{All, Contains, is_some, slice_get}
use Rattle.world_tree.proofs.Prelude.{cases_lt, length-take, take-append-drop, take_all, take_more, All-filter, Contains-append_left, Contains-get_or, Contains-push, Contains-push_cases, get_or_from_slice_get, slice_get-get_or, slice_get_within, Link, AreOlder, is_kept, kept_of, line_of_descent, link_of, TreeValue, CanCome, tree_with_newcomer, AreNumbered, IsNumberedWorld, ConfigValues, Scene, World, next_world, world_of, world_after, HasBeen, IsStanding, IsTurnover, HasBuried, scene_after, get_left}
use Rattle.world_tree.proofs.NumberLemmas.{link_at, numbered_front, older_of, standing_low}

-- what is kept goes on, as the law of that name says it
abbrev pub KeepingLaws : Type 0
KeepingLaws = record {
  -- a newest organism whose parent lives is kept behind those that were
  more : (everyone : List Link) (living : List ℕ) (link : Link) → AreOlder everyone
      → All (λ (other : Link). other.id < link.id) everyone → All (λ id. id < link.id) living
      → ((above : ℕ) → link.parent ≡ Some above → Contains living above)
      → kept_of (everyone ++ link ∷ []) (living ++ link.id ∷ []) ≡ kept_of everyone living
      ++ link ∷ [];
  -- where fewer live, who is kept of the kept is who is kept of all
  fewer : (everyone : List Link) (living left : List ℕ) → AreOlder everyone
      → ((id : ℕ) → Contains left id → Contains living id)
      → kept_of (kept_of everyone living) left ≡ kept_of everyone left;
  -- lists of the same ids that live keep the same organisms
  same : (everyone : List Link) (living others : List ℕ)
      → ((id : ℕ) → Contains living id ↔ Contains others id)
      → kept_of everyone living ≡ kept_of everyone others;
  -- an id that lives has the same link among the kept as among all
  links : (everyone : List Link) (living : List ℕ) (id : ℕ) → AreOlder everyone
      → Contains living id → link_of (kept_of everyone living) id ≡ link_of everyone id;
  -- and the same line of descent
  lines : (everyone : List Link) (living : List ℕ) (id : ℕ) → AreOlder everyone
      → Contains living id → line_of_descent (kept_of everyone living) id
      ≡ line_of_descent everyone id;
}

-- an update of a world
pub record IsUpdate (w : World) (scene : Scene) : Type 0 where
  pub turnover : IsTurnover w.cells w.everyone scene
  pub numbered : AreNumbered scene.everyone
  pub world : IsNumberedWorld w

-- those whose id passes a test hold what all hold
kept_all : (P : Link → Type 0) (everyone : List Link) (living : List ℕ) → All P everyone
    → All P (kept_of everyone living)
unfolding kept_of
kept_all P everyone living all =
    All-filter (λ (link : Link). is_kept everyone living link.id) P everyone all

-- so many of those that came have entered, and nobody has died
pub record HasEntered (w : World) (scene : Scene) (count : ℕ) (tree : TreeValue) : Type 0 where
  pub links : tree.links ≡ kept_of (take (length w.everyone + count) scene.everyone) tree.living
  pub living : (id : ℕ) → Contains tree.living id
      → HasBeen w.cells (length w.everyone) (length w.everyone + count) id
  pub each : (id : ℕ) → HasBeen w.cells (length w.everyone) (length w.everyone + count) id
      → Contains tree.living id

module _ (laws : KeepingLaws) {w : World} {scene : Scene} (is : IsUpdate w scene) where
  -- the first id of those that come
  abbrev first : ℕ
  first = length w.everyone

  -- who has been has a low id
  pub been_low : (end id : ℕ) → first ≤ end → HasBeen w.cells first end id → id < end
  been_low end id more (inl stood) = omega (arith, more, standing_low w id is.world stood)
  been_low end id more (inr came) = came.1

  module _ {count : ℕ} {tree : TreeValue} {link : Link} (entered : HasEntered w scene count tree)
      (there : slice_get scene.everyone (first + count) ≡ Some link) where
    -- those before it
    abbrev before : List Link
    before = take (first + count) scene.everyone

    -- its id is its place
    number : link.id ≡ first + count
    number = (is.numbered (first + count) link there).id

    -- those before it are numbered
    numbered : AreNumbered before
    numbered = numbered_front (first + count) scene.everyone is.numbered

    -- those before it have lower ids
    newest : All (λ (other : Link). other.id < link.id) before
    newest k d low =
        let here = slice_get-get_or before k d low in
        let id = (numbered k (get_or before k d) here).id in
        omega (arith, id, low, length-take (first + count) scene.everyone, number)

    -- its parent stood in a cell
    stood : (above : ℕ) → link.parent ≡ Some above → IsStanding w.cells above
    stood above e = is.turnover.parents (first + count) above link (omega arith) there e

    -- so its parent lives in the tree
    parent_lives : (above : ℕ) → link.parent ≡ Some above → Contains tree.living above
    parent_lives above e = entered.each above (inl (stood above e))

    -- the living have lower ids
    low_living : All (λ id. id < link.id) tree.living
    low_living k d low =
        let been = entered.living (get_or tree.living k d) (Contains-get_or tree.living k d low) in
        omega (arith, been_low (first + count) (get_or tree.living k d) (omega arith) been, number)

    -- it can enter
    pub can_enter : CanCome tree link.id link.parent
    can_enter = record {
      newest = subst (λ links. All (λ (other : Link). other.id < link.id) links) (sym entered.links)
          (kept_all (λ (other : Link). other.id < link.id) before tree.living newest);
      there = λ above e.
          let lives = parent_lives above e in
          let low = standing_low w above is.world (stood above e) in
          let within : above < length scene.everyone = omega (arith, low, is.turnover.grown) in
          let parent = get_or scene.everyone above link in
          let most = slice_get_within scene.everyone (first + count) link there in
          let front : above < length before =
          omega (arith, low, most, length-take (first + count) scene.everyone) in
          let here = sym (get_left before (drop (first + count) scene.everyone) above front)
          ∙ ap (λ l. slice_get l above) (take-append-drop (first + count) scene.everyone)
          ∙ slice_get-get_or scene.everyone above link within in
          ap (λ (links : List Link). is_some (link_of links above)) entered.links
          ∙ ap is_some (laws.links before tree.living above (older_of before numbered) lives
          ∙ link_at before above parent numbered here);
    }

    -- one more has entered
    pub entered_more : HasEntered w scene (count + 1) (tree_with_newcomer tree link)
    entered_more = record {
      links =
          ap (λ (links : List Link). links ++ link ∷ []) entered.links
          ∙ sym (laws.more before tree.living link (older_of before numbered) newest low_living
          parent_lives)
          ∙ ap (λ (links : List Link). kept_of links (tree.living ++ link.id ∷ []))
          (sym (ap (λ n. take n scene.everyone) one
          ∙ take_more scene.everyone (first + count) link
          (slice_get_within scene.everyone (first + count) link there)
          ∙ ap (λ l. before ++ l ∷ [])
          (get_or_from_slice_get scene.everyone (first + count) link link there)));
      living = λ id lives. ⊎_elim
          (λ (old : Contains tree.living id). lift id (entered.living id old))
          (λ (new : link.id ≡ id). inr (omega (arith, new, number), omega (arith, new, number)))
          (Contains-push_cases tree.living link.id id lives);
      each = λ id been. ⊎_elim
          (λ (old : IsStanding w.cells id). Contains-append_left tree.living (link.id ∷ []) id
          (entered.each id (inl old)))
          (λ (came : (first ≤ id) × (id < first + (count + 1))). ⊎_elim
          (λ (low : id < first + count). Contains-append_left tree.living (link.id ∷ []) id
          (entered.each id (inr (came.0, low))))
          (λ (high : first + count ≤ id). let same : link.id ≡ id =
          omega (arith, high, came.1, number) in
          subst (Contains (tree.living ++ link.id ∷ [])) same
          (Contains-push tree.living link.id))
          (cases_lt id (first + count)))
          been;
    }
      where
        one : first + (count + 1) ≡ first + count + 1
        one = omega arith

        lift : (id : ℕ) → HasBeen w.cells first (first + count) id
            → HasBeen w.cells first (first + (count + 1)) id
        lift id (inl old) = inl old
        lift id (inr came) = inr (came.0, omega (arith, came.1))

  -- all have entered
  pub entered_all : {tree : TreeValue} {count : ℕ} → first + count ≡ length scene.everyone
      → HasEntered w scene count tree → HasBuried w scene 0 tree
  entered_all {tree = tree} {count = count} all entered = record {
    links = entered.links ∙ ap (λ (links : List Link). kept_of links tree.living)
        (take_all (first + count) scene.everyone (omega (arith, all)));
    living = λ id lives. (
      subst (λ n. HasBeen w.cells first n id) all (entered.living id lives),
      λ place low gone. omega (arith, low),
    );
    each = λ id been left. entered.each id (subst (λ n. HasBeen w.cells first n id) (sym all) been);
  }

-- the world after one more update is what the scene leaves
pub next_is : (config : ConfigValues) (n : ℕ)
    → world_after config (n + 1) ≡ world_of (scene_after config n)
unfolding world_after next_world
next_is config n = ap (world_after config) (add-one n)

-- each update of a run is one
pub update_is : (config : ConfigValues) (n : ℕ)
    → IsTurnover (world_after config n).cells (world_after config n).everyone (scene_after config n)
    → ((n : ℕ) → IsNumberedWorld (world_after config n))
    → IsUpdate (world_after config n) (scene_after config n)
update_is config n turnover numbered = record {
  turnover = turnover;
  numbered =
      subst (λ (w : World). AreNumbered w.everyone) (next_is config n) (numbered (n + 1)).everyone;
  world = numbered n;
}
