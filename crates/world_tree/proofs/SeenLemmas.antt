-- What the tree of a world shows of it.
use Rattle.std.proofs.Common.{◌≡◌, ◌↔◌, ◌∙◌, refl, sym, ap, subst, ℕ, zero, suc, ◌+◌, ◌*◌, ◌<◌, List, [], ◌∷◌, ◌++◌, length, get_or, Option, Some, None, Result, Ok, Err, arith}
use Rattle.std.specs.Prelude.{Contains, IfOk, filter_map, slice_get, slice_set}
use Rattle.world_tree.proofs.Prelude.{length-replicate, slice_get-get_or, Link, AreOlder, kept_of, link_of, TreeValue, founded_by, ConfigValues, AreNumbered, IsBelow, IsNumberedWorld, descent_line_of, descent_lines_of, line_of_parent, Occupant, World, empty_cells, first_occupant, first_world, founder_link, id_of, world_after, IsStanding, IsTreeOf, living_and_ancestors, get_written, contains_more}
use Rattle.std.specs.Option.{option_map_or}
use Rattle.lineage_log.specs.Ancestry as tree
use Rattle.world_laws.proofs.WholeLogs.{only_founder}
use Rattle.world_tree.proofs.NumberLemmas.{link_at, older_of, standing_low}
use Rattle.world_tree.proofs.EnterLemmas.{KeepingLaws}

-- ---- the founder's world

-- the tree of the founder is that of its world
pub tree_found : (config : ConfigValues) (tree : TreeValue)
    → config.founder_cell < config.width * config.height
    → tree ≡ founded_by (founder_link 0 0 config.founder_cell config.ancestor)
    → IsTreeOf (world_after config 0) tree
unfolding world_after first_world kept_of
tree_found config tree within is = subst (IsTreeOf (first_world config)) (sym is) (record {
  links = refl;
  living = λ id lives. by id lives.0 lives.1 lives.2;
  standing = λ id stands.
      let same = (only_founder config stands.0 stands.1 stands.2).1 in
      (0, omega arith, ap (λ (o : Occupant). o.id) same ∙ stands.3);
})
  where
    by : (id k : ℕ) → k < 1 → get_or (0 ∷ []) k id ≡ id
        → IsStanding (slice_set (empty_cells config) config.founder_cell
        (Some (first_occupant config))) id
    by id zero low e = (
      config.founder_cell,
      first_occupant config,
      get_written (empty_cells config) config.founder_cell (Some (first_occupant config))
          (omega (
            arith,
            within,
            length-replicate {A = Option Occupant}
                (config.width * config.height) None,
          )),
      e,
    )
    by id (suc k) low e = absurd (omega (arith, low))

-- ---- lines of descent

-- how a line comes from a parent's, in a tree and in the list of all
pub record LineLaws : Type 0 where
  pub trees : (links : List Link) (id : ℕ) (link : Link) → AreOlder links
      → link_of links id ≡ Some link
      → tree.line_of_descent links id ≡ option_map_or (tree.line_of_descent links) link.parent []
      ++ link ∷ []
  pub all : (everyone : List Link) (id : ℕ) (link : Link) → AreNumbered everyone
      → slice_get everyone id ≡ Some link
      → descent_line_of everyone id ≡ line_of_parent (descent_lines_of everyone) link.parent ++ link
      ∷ []

module _ (lines : LineLaws) (everyone : List Link) (are : AreNumbered everyone) where
  -- the lines of ids below a bound are the same in both
  same_line_within : (n id : ℕ) → id < n → id < length everyone
      → tree.line_of_descent everyone id ≡ descent_line_of everyone id
  same_line_within zero id low within = absurd (omega (arith, low))
  same_line_within (suc n) id low within =
      let link = get_or everyone id (founder_link 0 0 0 []) in
      let e = slice_get-get_or everyone id (founder_link 0 0 0 []) within in
      lines.trees everyone id link (older_of everyone are) (link_at everyone id link are e)
      ∙ ap (λ (front : List Link). front ++ link ∷ []) (up link.parent (are id link e).parent
      (λ above l. same_line_within n above (omega (arith, l, low)) (omega (arith, l, within))))
      ∙ sym (lines.all everyone id link are e)
    where
      up : (parent : Option ℕ) → IsBelow id parent
          → ((above : ℕ) → above < id
          → tree.line_of_descent everyone above ≡ descent_line_of everyone above)
          → option_map_or (tree.line_of_descent everyone) parent []
          ≡ line_of_parent (descent_lines_of everyone) parent
      up None below rest = refl
      up (Some above) below rest = rest above below

  -- the line of an id is the same in both
  pub same_line : (id : ℕ) → id < length everyone
      → tree.line_of_descent everyone id ≡ descent_line_of everyone id
  same_line id within = same_line_within (id + 1) id (omega arith) within

-- the path of an organism of the tree is its line among all
pub path_is : (laws : KeepingLaws) (lines : LineLaws) (w : World) (t : TreeValue) (id : ℕ)
    → IsNumberedWorld w → IsTreeOf w t → Contains t.living id
    → tree.line_of_descent t.links id ≡ descent_line_of w.everyone id
path_is laws lines w t id is of lives =
    ap (λ (links : List Link). tree.line_of_descent links id) of.links
    ∙ laws.lines w.everyone t.living id (older_of w.everyone is.everyone) lives
    ∙ same_line lines w.everyone is.everyone id (standing_low w id is (of.living id lives))

-- ---- who stands

-- the ids in the cells are those of who stands
ids_stand : (cells : List (Option Occupant)) (id : ℕ) → Contains (filter_map id_of cells) id
    → IsStanding cells id
ids_stand [] id is = absurd (omega (arith, is.1))
ids_stand (None ∷ cells) id is =
    let rest = ids_stand cells id is in (suc rest.0, rest.1, rest.2, rest.3)
ids_stand (Some o ∷ cells) id (zero, low, e) = (0, o, refl, e)
ids_stand (Some o ∷ cells) id (suc k, low, e) =
    let rest = ids_stand cells id (k, omega (arith, low), e) in
    (suc rest.0, rest.1, rest.2, rest.3)

-- who stands is among the ids in the cells
stand_ids : (cells : List (Option Occupant)) (id k : ℕ) (o : Occupant)
    → slice_get cells k ≡ Some (Some o) → o.id ≡ id → Contains (filter_map id_of cells) id
stand_ids [] id k o is e = absurd cc
stand_ids (slot ∷ cells) id zero o is e =
    let same : slot ≡ Some o = cc in rw same (0, omega arith, e)
stand_ids (None ∷ cells) id (suc k) o is e = stand_ids cells id k o is e
stand_ids (Some x ∷ cells) id (suc k) o is e =
    contains_more id x.id (filter_map id_of cells) (stand_ids cells id k o is e)

-- the links of a tree are those of who stands and of their ancestors
pub links_are : (same : (everyone : List Link) (living others : List ℕ)
    → ((id : ℕ) → Contains living id ↔ Contains others id)
    → kept_of everyone living ≡ kept_of everyone others) (w : World) (t : TreeValue) → IsTreeOf w t
    → t.links ≡ living_and_ancestors w
links_are same w t of = of.links
    ∙ same w.everyone t.living (filter_map id_of w.cells)
    (λ id. (
      λ lives. let stands = of.living id lives in
          stand_ids w.cells id stands.0 stands.1 stands.2 stands.3,
      λ there. of.standing id (ids_stand w.cells id there),
    ))

-- what holds of an answer, and what follows from it
pub if_ok : {T E : Type 0} (r : Result T E) (P Q : T → Type 0) → ((x : T) → P x → Q x) → IfOk r P
    → IfOk r Q
if_ok (Ok x) P Q on is = on x is
if_ok (Err e) P Q on is = tt
