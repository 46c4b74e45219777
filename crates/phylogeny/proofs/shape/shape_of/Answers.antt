use Rattle.std.proofs.Common.{◌≡◌, ℕ, ◌+◌, ◌-◌, ◌<◌, cond, eqb, List, Option, Some, length, get_or, sym, ap, refl, ◌∙◌, arith}
use Rattle.std.specs.Prelude.{is_some, nat_le}
use Rattle.phylogeny.proofs.Prelude.{option_or, get_or_default, count_by-le-length, Shape}
use Rattle.phylogeny.proofs.CountLemmas.{bit}
use Rattle.phylogeny.proofs.ListLemmas.{get_replicated}
use Rattle.phylogeny.proofs.SlotLemmas.{living_count}
use Rattle.phylogeny.proofs.WalkLemmas.{IsWalked, Keeps, children_few, descendants_few, everybody, shape_few, walked_branches, walked_child, walked_common, walked_founder, walked_kept, walked_over, walked_start}
use Rattle.phylogeny.proofs.shape.shape_of.Goals.{After-index-below, After-keep, In-Some}
use Rattle.phylogeny.proofs.shape.shape_of.Goals as goal

read_is : (xs : List ℕ) (i r n : ℕ) → length xs ≡ n → i < n → r ≡ get_or xs i r → r ≡ get_or xs i 0
read_is xs i r n len within is = is ∙ get_or_default xs i r 0 (omega (arith, len))

moved : {parents standing : List (Option ℕ)} {bound to : ℕ} {descendants children : List ℕ}
    {shape : Shape} → bound ≡ to → IsWalked parents standing bound descendants children shape
    → IsWalked parents standing to descendants children shape
moved e walked = rw (← e) walked

pub loop-id-init : goal.loop-id-init
loop-id-init c =
    let none = c.in_ok-children.ensures.items_if_clones_equal (λ y e. e) in
    let as_many : length c.in_ok-children.children.items ≡ length c.args.parents.now =
    omega (arith, c.in_ok-children.ensures.len, c.in_ok-children.children.ok.0) in
    walked_start c.args.parents.now c.args.standing.now (length c.args.parents.now)
    c.in_ok-descendants.descendants.items c.in_ok-children.children.items _ refl
    c.requires.among c.in_ok-descendants.ensures.len as_many
    c.in_ok-descendants.ensures.counts
    (λ id within. ap (λ (xs : List ℕ). get_or xs id 0) none
    ∙ get_replicated (length c.args.parents.now) id 0)
    refl refl refl

-- what the walk has counted when it comes to an id
walked : (c : After-index-below)
    → IsWalked c.args.parents.now c.args.standing.now ((c.loop-id.id - 1) + 1)
    c.loop-id.descendants.items c.loop-id.children.items c.loop-id.shape
walked c = moved (omega (arith, c.loop-id-test.true)) c.loop-id.invariant

-- the id is below the bound
within : (c : After-index-below) → c.loop-id.id - 1 < length c.args.parents.now
within c = omega (arith, c.loop-id-test.true, c.loop-id.auto.id)

-- so many descend from it
below_is : (c : After-index-below)
    → c.index-below.result.now ≡ get_or c.loop-id.descendants.items (c.loop-id.id - 1) 0
below_is c =
    read_is c.loop-id.descendants.items (c.loop-id.id - 1) c.index-below.result.now
    (length c.args.parents.now) c.loop-id.invariant.as_many (within c) c.index-below.ensures

-- its parent is below the bound
lower : (c : In-Some) → c.in-Some.parent < length c.args.parents.now
lower c =
    let older = c.requires.older (c.loop-id.id - 1) c.in-Some.parent c.in-Some.is in
    omega (arith, older, c.loop-id-test.true, c.loop-id.auto.id)

-- it is kept
keeps : (c : After-keep)
    → Keeps (c.loop-id.id - 1) (get_or c.loop-id.children.items (c.loop-id.id - 1) 0)
    (eqb (get_or c.loop-id.descendants.items (c.loop-id.id - 1) 0)
    (length (everybody c.args.parents.now c.args.standing.now))) c.loop-id.shape c.keep.new.self
keeps c =
    let l = c.loop-id in
    let low : l.id - 1 < length c.args.parents.now =
    omega (arith, c.loop-id-test.true, l.auto.id) in
    let count = read_is l.children.items (l.id - 1) c.index.result.now (length c.args.parents.now)
    l.invariant.as_many_children low c.index.ensures in
    let below = read_is l.descendants.items (l.id - 1) c.index-below.result.now
    (length c.args.parents.now) l.invariant.as_many low c.index-below.ensures in
    let living = c.count_living-living.ensures ∙ sym (living_count 0 c.args.standing.now) in
    record {
      kept = c.keep.ensures.kept;
      branches = c.keep.ensures.branches
          ∙ ap (λ (n : ℕ). l.shape.branches + bit (nat_le 2 n)) count;
      common = c.keep.ensures.common ∙ (λ i. cond (eqb (below i) (living i))
          (option_or l.shape.common (Some (l.id - 1))) l.shape.common);
    }

pub loop-id-preserved-then-below-eq0 : goal.loop-id-preserved-then-below-eq0
loop-id-preserved-then-below-eq0 c =
    let at = (goal.at.loop-id-preserved-then-below-eq0 c).After-index-below in
    walked_over _ _ c.requires.older _ (within at) (sym (below_is at) ∙ c.if-below-eq0.true)
    (walked at)

pub keep-requires-clause-kept : goal.keep-requires-clause-kept
keep-requires-clause-kept c =
    let few = shape_few c.args.parents.now c.args.standing.now c.loop-id.invariant in
    omega (
      arith,
      few.0,
      c.loop-id-test.true,
      c.loop-id.auto.id,
      c.in_ok-children.ensures.len,
      c.in_ok-children.children.ok.1,
      c.in_ok-children.children.small,
    )

pub keep-requires-clause-branches : goal.keep-requires-clause-branches
keep-requires-clause-branches c =
    (shape_few c.args.parents.now c.args.standing.now c.loop-id.invariant).1

pub overflow_add-index_mut : goal.overflow_add-index_mut
overflow_add-index_mut c =
    let parents = c.args.parents.now in
    let standing = c.args.standing.now in
    let l = c.loop-id in
    let at = goal.at.overflow_add-index_mut c in
    let here = below_is at.After-index-below in
    let above = read_is l.descendants.items c.in-Some.parent c.index_mut.result.now
    (length parents) l.invariant.as_many (lower at.In-Some) c.index_mut.ensures.value in
    let few = descendants_few parents standing c.requires.older (l.id - 1) c.in-Some.parent
    c.in-Some.is (walked at.After-index-below) in
    let living = living_count 0 standing in
    let cells = count_by-le-length is_some standing in
    omega (arith, here, above, few, living, cells, c.requires.few)

pub overflow_add-index_mut-in-Some : goal.overflow_add-index_mut-in-Some
overflow_add-index_mut-in-Some c =
    let parents = c.args.parents.now in
    let l = c.loop-id in
    let at = goal.at.overflow_add-index_mut-in-Some c in
    let above = read_is l.children.items c.in-Some.parent c.index_mut-in-Some.result.now
    (length parents) l.invariant.as_many_children (lower at.In-Some)
    c.index_mut-in-Some.ensures.value in
    let few = children_few parents c.args.standing.now c.requires.older (l.id - 1)
    c.in-Some.parent c.in-Some.is (walked at.After-index-below) in
    omega (
      arith,
      above,
      few,
      c.in_ok-children.ensures.len,
      c.in_ok-children.children.ok.1,
      c.in_ok-children.children.small,
    )

pub loop-id-preserved-in-Some : goal.loop-id-preserved-in-Some
loop-id-preserved-in-Some c =
    let parents = c.args.parents.now in
    let standing = c.args.standing.now in
    let l = c.loop-id in
    let at = goal.at.loop-id-preserved-in-Some c in
    let below = below_is at.After-index-below in
    let above = read_is l.descendants.items c.in-Some.parent c.index_mut.result.now
    (length parents) l.invariant.as_many (lower at.In-Some) c.index_mut.ensures.value in
    let above_too = read_is l.children.items c.in-Some.parent c.index_mut-in-Some.result.now
    (length parents) l.invariant.as_many_children (lower at.In-Some)
    c.index_mut-in-Some.ensures.value in
    let some : 0 < get_or l.descendants.items (l.id - 1) 0 =
    omega (arith, below, c.if-below-eq0.false) in
    rw (above, below, above_too) (walked_child parents standing c.requires.older
    (within at.After-index-below) some (walked at.After-index-below) (keeps at.After-keep)
    c.in-Some.parent c.in-Some.is)

pub loop-id-preserved : goal.loop-id-preserved
loop-id-preserved c =
    let l = c.loop-id in
    let at = goal.at.loop-id-preserved c in
    let below = below_is at.After-index-below in
    let some : 0 < get_or l.descendants.items (l.id - 1) 0 =
    omega (arith, below, c.if-below-eq0.false) in
    walked_founder _ _ c.requires.older (within at.After-index-below) some
    (walked at.After-index-below) (keeps at.After-keep) c.in_default.is

pub returns : goal.returns
returns c =
    let end = moved (omega (arith, c.loop-id-test.false)) c.loop-id.invariant in
    record {
      common = walked_common _ _ end;
      kept = walked_kept _ _ end;
      branches = walked_branches _ _ end;
    }
