-- Those that died in an update leave the tree.
use Rattle.std.proofs.Common.{◌≡◌, ⊎_elim, ◌∙◌, sym, ap, true≢false, ℕ, ◌+◌, ◌<◌, ◌≤◌, length, get_or, Some, eq-eqb, arith}
use Rattle.std.specs.Prelude.{Contains, nat_eq, slice_get}
use Rattle.world_tree.proofs.Prelude.{cases_lt, get_or_from_slice_get, slice_get_within, kept_of, TreeValue, tree_with_death, without_id, Scene, World, world_of, HasGone, IsStanding, HasBuried, IsTreeOf}
use Rattle.std.proofs.lemmas.Map.Keys.{apart_from_distinct}
use Rattle.world_tree.proofs.NumberLemmas.{older_of, without_from, without_to}
use Rattle.world_tree.proofs.EnterLemmas.{IsUpdate, KeepingLaws}

module _ (laws : KeepingLaws) {w : World} {scene : Scene} (is : IsUpdate w scene) where
  -- nobody died twice
  died_once : (place other id : ℕ) → place < other → slice_get scene.gone place ≡ Some id
      → slice_get scene.gone other ≡ Some id → ⊥
  died_once place other id low here there =
      let apart = apart_from_distinct nat_eq scene.gone place other id is.turnover.once low
      (slice_get_within scene.gone other id there) in
      let one = get_or_from_slice_get scene.gone place id id here in
      let two = get_or_from_slice_get scene.gone other id id there in
      true≢false (sym (eq-eqb (get_or scene.gone place id) (get_or scene.gone other id)
      (one ∙ sym two)) ∙ apart)

  module _ {count id : ℕ} {tree : TreeValue} (buried : HasBuried w scene count tree)
      (there : slice_get scene.gone count ≡ Some id) where
    -- the next one lives still
    pub can_die : Contains tree.living id
    can_die = buried.each id (is.turnover.gone id (count, there))
        (λ place low gone. died_once place count id low gone there)

    -- one more is buried
    pub buried_more : HasBuried w scene (count + 1) (tree_with_death tree id)
    buried_more = record {
      links =
          ap (λ links. kept_of links (without_id id tree.living)) buried.links
          ∙ laws.fewer scene.everyone tree.living (without_id id tree.living)
          (older_of scene.everyone is.numbered)
          (λ x lives. (without_from id x tree.living lives).0);
      living = λ x lives.
          let still = without_from id x tree.living lives in
          let old = buried.living x still.0 in (
            old.0,
            λ place low gone. ⊎_elim
                (λ (early : place < count). old.1 place early gone)
                (λ (late : count ≤ place).
                let same : place ≡ count = omega (arith, late, low) in
                still.1 (sym (get_or_from_slice_get scene.gone count x id
                (sym (ap (slice_get scene.gone) same) ∙ gone))
                ∙ get_or_from_slice_get scene.gone count id id there))
                (cases_lt place count),
          );
      each = λ x been left.
          without_to id x tree.living
          (buried.each x been (λ place low gone. left place (omega (arith, low)) gone))
          (λ same. left count (omega arith) (there ∙ ap (λ (n : ℕ). Some n) (sym same)));
    }

  -- all are buried
  pub buried_all : {tree : TreeValue} → HasBuried w scene (length scene.gone) tree
      → IsTreeOf (world_of scene) tree
  buried_all buried = record {
    links = buried.links;
    living = λ id lives.
        let old = buried.living id lives in
        ⊎_elim
        (λ (stands : IsStanding scene.cells id). stands)
        (λ (gone : HasGone scene.gone id).
        absurd (old.1 gone.0 (slice_get_within scene.gone gone.0 id gone.1) gone.1))
        (is.turnover.left id old.0);
    standing = λ id stands. buried.each id (is.turnover.standing id stands)
        (λ place low gone. is.turnover.apart id stands (place, gone));
  }
