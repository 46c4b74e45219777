-- Who lives among the nodes of a tree, and what is left when a node comes, changes or goes.
use Rattle.std.proofs.Common.{◌≡◌, inl, inr, ⊎_elim, ◌∙◌, refl, sym, ap, ℕ, zero, suc, ◌<◌, Bool, true, false, not, eqb, List, [], ◌∷◌, ◌++◌, Some, None, nat_cmp, Greater, arith}
use Rattle.std.specs.Prelude.{All, Contains, filter}
use Rattle.lineage_log.proofs.Prelude.{insert_entry, is_at, nat_cmp_is, keys_of, remove_entry, set_value, cases_Bool, cond-true, nat_tests, map_push, filter-append, sorted_tail, Link, without_id, NodeValue, links_of, living_ids_of, node_at, node_link}
use Rattle.lineage_log.proofs.AncestorLemmas.{cases_Option}
use Rattle.lineage_log.proofs.NodeLemmas.{Rises, by_key, first_node, other_node, none_behind, behind_first}

-- ---- who lives

-- one element more in front
pub contains_more : {X : Type 0} (x y : X) (xs : List X) → Contains xs x → Contains (y ∷ xs) x
contains_more x y xs is = (suc is.0, omega (arith, is.1), is.2)

-- a node that lives is among the living
pub there_lives : (nodes : List (ℕ × NodeValue)) (id : ℕ) (node : NodeValue)
    → node_at nodes id ≡ Some node → node.lives ≡ true → Contains (living_ids_of nodes) id
there_lives [] id node is lives = absurd cc
there_lives (e ∷ es) id node is lives = elim (by_key id e.0) [
  | inl here ↦
      let first : e.1.lives ≡ true = cc (first_node e es id here.1) in
      rw first (0, omega arith, sym here.0)
  | inr apart ↦
      let rest = there_lives es id node (sym (other_node e es id apart.1) ∙ is) lives in
      elim (cases_Bool e.1.lives) [
        | inl living ↦ rw living (contains_more id e.0 (living_ids_of es) rest)
        | inr dying ↦ rw dying rest
      ]
]

-- the node of an id lives
abbrev pub HasLiving : List (ℕ × NodeValue) → ℕ → Type 0
HasLiving nodes id = (node : NodeValue) × (node_at nodes id ≡ Some node) × (node.lives ≡ true)

-- who is among the living has a node that lives
pub lives_there : (nodes : List (ℕ × NodeValue)) (id : ℕ) → Rises nodes
    → Contains (living_ids_of nodes) id → HasLiving nodes id
lives_there [] id rising is = absurd (omega (arith, is.1))
lives_there (e ∷ es) id rising is = elim (cases_Bool e.1.lives) [
  | inl living ↦ first (λ among. deeper (lives_there es id tail among)) living (rw living at is)
  | inr dying ↦ deeper (lives_there es id tail (rw dying at is))
]
  where
    tail : Rises es
    tail = sorted_tail nat_cmp e.0 (keys_of es) rising

    deeper : HasLiving es id → HasLiving (e ∷ es) id
    deeper rest = (rest.0, behind_first e es id rest.0 rising rest.1, rest.2)

    first : (Contains (living_ids_of es) id → HasLiving (e ∷ es) id) → e.1.lives ≡ true
        → Contains (e.0 ∷ living_ids_of es) id → HasLiving (e ∷ es) id
    first rest lives (zero, low, at) = (
      e.1,
      ⊎_elim (λ here. first_node e es id here.1) (λ apart. absurd (apart.0 (sym at)))
          (by_key id e.0),
      lives,
    )
    first rest lives (suc k, low, at) = rest (k, omega (arith, low), at)

-- ---- a newcomer, whose id is above all

-- it stands last
pub insert_last : (nodes : List (ℕ × NodeValue)) (id : ℕ) (node : NodeValue)
    → All (λ (link : Link). link.id < id) (links_of nodes)
    → insert_entry nat_cmp nodes id node ≡ nodes ++ (id, node) ∷ []
insert_last [] id node newest = refl
insert_last (e ∷ es) id node newest =
    rw (
      sym (nat_cmp_is id e.0 Greater (newest 0 (node_link e.0 e.1) (omega arith))),
      insert_last es id node (λ k d low. newest (suc k) d (omega (arith, low))),
    )

-- each id is below it
pub newest_above : (nodes : List (ℕ × NodeValue)) (id other : ℕ) (node : NodeValue)
    → All (λ (link : Link). link.id < id) (links_of nodes) → node_at nodes other ≡ Some node
    → other < id
newest_above [] id other node newest is = absurd cc
newest_above (e ∷ es) id other node newest is =
    grind (
      arith,
      by_key other e.0,
      newest 0 (node_link e.0 e.1) (omega arith),
      newest_above es id other node (λ k d low. newest (suc k) d (omega (arith, low))),
    )

-- no node has it
pub none_newest : (nodes : List (ℕ × NodeValue)) (id : ℕ)
    → All (λ (link : Link). link.id < id) (links_of nodes) → node_at nodes id ≡ None
none_newest nodes id newest = elim (cases_Option (node_at nodes id)) [
  | inl none ↦ none
  | inr some ↦ absurd (omega (arith, newest_above nodes id id some.0 newest some.1))
]

-- the links with it
pub links_newcomer : (nodes : List (ℕ × NodeValue)) (id : ℕ) (node : NodeValue)
    → links_of (nodes ++ (id, node) ∷ []) ≡ links_of nodes ++ node_link id node ∷ []
links_newcomer nodes id node = map_push (λ (e : ℕ × NodeValue). node_link e.0 e.1) nodes (id, node)

-- the living with it
pub living_newcomer : (nodes : List (ℕ × NodeValue)) (id : ℕ) (node : NodeValue) → node.lives ≡ true
    → living_ids_of (nodes ++ (id, node) ∷ []) ≡ living_ids_of nodes ++ id ∷ []
living_newcomer nodes id node lives =
    let lives_at : (ℕ × NodeValue) → Bool = λ (e : ℕ × NodeValue). e.1.lives in
    ap keys_of (filter-append lives_at nodes ((id, node) ∷ [])
    ∙ ap (λ last. filter lives_at nodes ++ last)
    (cond-true node.lives ((id, node) ∷ []) [] lives))
    ∙ map_push (λ (e : ℕ × NodeValue). e.0) (filter lives_at nodes) (id, node)

-- ---- a node that changes

-- the links stay where its own does
pub links_set : (nodes : List (ℕ × NodeValue)) (id : ℕ) (old new : NodeValue)
    → node_at nodes id ≡ Some old → ((key : ℕ) → node_link key new ≡ node_link key old)
    → links_of (set_value (is_at (nat_cmp id)) nodes new) ≡ links_of nodes
links_set [] id old new is same = refl
links_set (e ∷ es) id old new is same =
    grind (
      arith,
      by_key id e.0,
      same e.0,
      λ (there : node_at es id ≡ Some old).
          links_set es id old new there same,
    )

-- who lives stays where it lives as before
pub living_set : (nodes : List (ℕ × NodeValue)) (id : ℕ) (old new : NodeValue)
    → node_at nodes id ≡ Some old → new.lives ≡ old.lives
    → living_ids_of (set_value (is_at (nat_cmp id)) nodes new) ≡ living_ids_of nodes
living_set [] id old new is same = refl
living_set (e ∷ es) id old new is same =
    grind (
      arith,
      by_key id e.0,
      λ (there : node_at es id ≡ Some old).
          living_set es id old new there same,
    )

-- an id that is no node's isn't left out
without_none : (nodes : List (ℕ × NodeValue)) (id : ℕ) → node_at nodes id ≡ None
    → without_id id (living_ids_of nodes) ≡ living_ids_of nodes
without_none [] id none = refl
without_none (e ∷ es) id none =
    grind (arith, nat_tests, by_key id e.0, without_none es id)

-- one that dies is left out of the living
pub living_dead : (nodes : List (ℕ × NodeValue)) (id : ℕ) (old new : NodeValue) → Rises nodes
    → node_at nodes id ≡ Some old → new.lives ≡ false
    → living_ids_of (set_value (is_at (nat_cmp id)) nodes new) ≡ without_id id (living_ids_of nodes)
living_dead [] id old new rising is dead = refl
living_dead (e ∷ es) id old new rising is dead =
    grind (
      arith,
      nat_tests,
      by_key id e.0,
      none_behind e es id rising,
      without_none es id,
      λ (there : node_at es id ≡ Some old).
          living_dead es id old new (sorted_tail nat_cmp e.0 (keys_of es) rising) there dead,
    )

-- ---- a node that goes

-- who lives stays where it did not live
pub living_gone : (nodes : List (ℕ × NodeValue)) (id : ℕ) (old : NodeValue)
    → node_at nodes id ≡ Some old → old.lives ≡ false
    → living_ids_of (remove_entry (is_at (nat_cmp id)) nodes) ≡ living_ids_of nodes
living_gone [] id old is dead = refl
living_gone (e ∷ es) id old is dead =
    grind (
      arith,
      by_key id e.0,
      λ (there : node_at es id ≡ Some old).
          living_gone es id old there dead,
    )

-- an id that is no node's leaves out no link
links_none : (nodes : List (ℕ × NodeValue)) (id : ℕ) → node_at nodes id ≡ None
    → filter (λ (link : Link). not (eqb link.id id)) (links_of nodes) ≡ links_of nodes
links_none [] id none = refl
links_none (e ∷ es) id none = grind (arith, nat_tests, by_key id e.0, links_none es id)

-- its link is left out
pub links_gone : (nodes : List (ℕ × NodeValue)) (id : ℕ) → Rises nodes
    → links_of (remove_entry (is_at (nat_cmp id)) nodes)
    ≡ filter (λ (link : Link). not (eqb link.id id)) (links_of nodes)
links_gone [] id rising = refl
links_gone (e ∷ es) id rising =
    grind (
      arith,
      nat_tests,
      by_key id e.0,
      none_behind e es id rising,
      links_none es id,
      links_gone es id (sorted_tail nat_cmp e.0 (keys_of es) rising),
    )
