-- A family of three: a founder, its child and its grandchild.
use Rattle.std.proofs.Common.{◌≡◌, ◌∙◌, refl, sym, ap, subst, unwrap_or, ℕ, ◌<◌, List, [], ◌∷◌, Option, Some, None, Ok, arith}
use Rattle.std.specs.Prelude.{Contains, IsOk, IsSome, is_ok}
use Rattle.std.proofs.lemmas.List.Elements.{All-cons, All-nil}
use Rattle.instruction_set.specs.declared.letter.Letter.{Letter}
use Rattle.mutations.specs.BirthRecord.{BirthRecord, child_of}
use Rattle.lineage_log.specs.Ancestry.{Link, kept_of, link_of, TreeValue, CanCome, founded_by, genome_in_tree, tree_with_death, tree_with_newcomer}

-- a child with its parent's genome
abbrev pub child_in : TreeValue → ℕ → ℕ → ℕ → BirthRecord → Link
child_in t id parent update origin =
    record {
      id = id;
      parent = Some parent;
      update = update;
      cell = update;
      origin = Some origin;
      genome = genome_in_tree t parent;
    }

-- a record that changes nothing
abbrev pub unchanged : BirthRecord
unchanged = record { written = None; changes = [] }

-- it makes the same genome
pub same_child : (letters : List Letter) (origin : BirthRecord) → origin ≡ unchanged
    → child_of letters origin ≡ Ok letters
same_child letters origin is = ap (child_of letters) is

-- and so it applies
pub applies : (letters : List Letter) (origin : BirthRecord) → origin ≡ unchanged
    → IsOk (child_of letters origin)
applies letters origin is = ap is_ok (same_child letters origin is)

-- the families
abbrev pub two : TreeValue → BirthRecord → TreeValue
two t origin = tree_with_newcomer t (child_in t 1 0 1 origin)

-- with the grandchild
abbrev pub three : TreeValue → BirthRecord → BirthRecord → TreeValue
three t origin other = tree_with_newcomer (two t origin) (child_in (two t origin) 2 1 2 other)

module _ (founder : Link) (id : founder.id ≡ 0) (t : TreeValue) (is : t ≡ founded_by founder)
    (origin other : BirthRecord) where
  -- the founder, the child and the grandchild live, in this order
  pub living_three : (three t origin other).living ≡ 0 ∷ 1 ∷ 2 ∷ []
  living_three =
      ap (λ (t : TreeValue). (three t origin other).living) is ∙ ap (λ n. n ∷ 1 ∷ 2 ∷ []) id

  -- the grandchild can come
  pub grandchild_comes : CanCome (two t origin) 2 (Some 1)
  grandchild_comes = subst (λ (t : TreeValue). CanCome (two t origin) 2 (Some 1)) (sym is) (record {
    newest = All-cons (λ (link : Link). link.id < 2) founder
        (child_in (founded_by founder) 1 0 1 origin ∷ []) (omega (arith, id))
        (All-cons (λ (link : Link). link.id < 2) (child_in (founded_by founder) 1 0 1 origin) []
        (omega arith) (All-nil (λ (link : Link). link.id < 2)));
    there = λ above e. subst (λ n. IsSome (link_of (two (founded_by founder) origin).links n))
        (ap (λ (o : Option ℕ). unwrap_or o 0) e) (found founder.id id);
  })
    where
      found : (n : ℕ) → n ≡ 0 → IsSome
          (link_of (record founder { id = n } ∷ child_in (founded_by founder) 1 0 1 origin ∷ []) 1)
      found n e = subst (λ m. IsSome
          (link_of (record founder { id = m } ∷ child_in (founded_by founder) 1 0 1 origin ∷ []) 1))
          (sym e) refl

-- the tree as it is told of a child that came with its parent's genome
abbrev BornAs : TreeValue → TreeValue → ℕ → ℕ → BirthRecord → Type 0
BornAs t later id parent origin =
    (genome : List Letter) → child_of (genome_in_tree t parent) origin ≡ Ok genome
    → later ≡ tree_with_newcomer t (record (child_in t id parent id origin) { genome = genome })

-- a child and a grandchild came
pub family_of : (t one all : TreeValue) (origin other : BirthRecord) → origin ≡ unchanged
    → other ≡ unchanged → BornAs t one 1 0 origin → BornAs one all 2 1 other
    → all ≡ three t origin other
family_of t one all origin other first second child grandchild =
    grandchild (genome_in_tree one 1) (same_child (genome_in_tree one 1) other second)
    ∙ ap (λ (t : TreeValue). tree_with_newcomer t (child_in t 2 1 2 other))
    (child (genome_in_tree t 0) (same_child (genome_in_tree t 0) origin first))

-- who lives after the deaths
pub lives_first : (t : TreeValue) → t.living ≡ 0 ∷ 1 ∷ 2 ∷ [] → Contains t.living 0
lives_first t is = subst (λ ids. Contains ids 0) (sym is) (0, omega arith, refl)

-- who lives after the first death
pub lives_last : (t dead : TreeValue) → t.living ≡ 0 ∷ 1 ∷ 2 ∷ [] → dead ≡ tree_with_death t 0
    → Contains dead.living 2
lives_last t dead is e =
    subst (λ ids. Contains ids 2)
    (sym (ap (λ (d : TreeValue). d.living) e
    ∙ ap (λ ids. (tree_with_death (record { links = t.links; living = ids }) 0).living) is))
    (1, omega arith, refl)

-- who lives after the second
pub lives_middle : (t dead last : TreeValue) → t.living ≡ 0 ∷ 1 ∷ 2 ∷ []
    → dead ≡ tree_with_death t 0
    → last ≡ tree_with_death dead 2 → Contains last.living 1
lives_middle t dead last is e f =
    subst (λ ids. Contains ids 1)
    (sym (ap (λ (d : TreeValue). d.living) f
    ∙ ap (λ (d : TreeValue). (tree_with_death d 2).living) e
    ∙ ap (λ ids. (tree_with_death
    (tree_with_death (record { links = t.links; living = ids }) 0) 2).living)
    is)) (0, omega arith, refl)

-- the middle one stays when the others die
pub middle_stays : (letters : List Letter) (t later dead last : TreeValue)
    (origin other : BirthRecord)
    → t ≡ founded_by (record {
      id = 0;
      parent = None;
      update = 0;
      cell = 0;
      origin = None;
      genome = letters;
    }) → later ≡ three t origin other → dead ≡ tree_with_death later 0
    → last ≡ tree_with_death dead 2
    → IsSome (link_of last.links 1)
unfolding kept_of
middle_stays letters t later dead last origin other is born first second =
    let all = second ∙ ap (λ (d : TreeValue). tree_with_death d 2)
    (first ∙ ap (λ (d : TreeValue). tree_with_death d 0)
    (born ∙ ap (λ (t : TreeValue). three t origin other) is)) in
    subst (λ (l : TreeValue). IsSome (link_of l.links 1)) (sym all) refl
