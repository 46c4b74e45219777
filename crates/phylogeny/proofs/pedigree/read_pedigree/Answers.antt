use Rattle.std.proofs.Common.{◌≡◌, ℕ, [], List, Option, Result, Ok, Err, ◌∙◌, subst, sym}
use Rattle.std.specs.Prelude.{IfOk}
use Rattle.phylogeny.proofs.Prelude.{Line, pedigree_of, IsPedigree, parents_in, pedigree_with, standing_after}
use Rattle.phylogeny.specs.declared.pedigree.Pedigree as code
use Rattle.phylogeny.proofs.LogLemmas.{IsToldBy, good_tells, pedigree_is}
use Rattle.phylogeny.proofs.pedigree.read_pedigree.Goals as goal

module _ {E : Type 0} (lines : List Line) (told : IsToldBy lines) where
  tells : (read : Result code.Pedigree E) → IfOk read (λ p. p.parents.items ≡ parents_in lines)
      → IfOk read (λ p. p.standing.items ≡ standing_after [] lines)
      → IfOk read (λ p. pedigree_with p.parents.items p.standing.items ≡ pedigree_of lines)
  tells (Ok p) parents standing =
      (λ i. pedigree_with (parents i) (standing i)) ∙ pedigree_is lines told
  tells (Err e) parents standing = tt

  is_sound : (read : Result code.Pedigree E) → IfOk read (λ p. p.parents.items ≡ parents_in lines)
      → IfOk read (λ p. p.standing.items ≡ standing_after [] lines)
      → IfOk read (λ p. IsPedigree p.parents.items p.standing.items)
  is_sound (Ok p) parents standing =
      subst (λ (ps : List (Option ℕ)). IsPedigree ps p.standing.items) (sym parents)
      (subst (λ (ss : List (Option ℕ)). IsPedigree (parents_in lines) ss)
      (sym standing) told.sound)
  is_sound (Err e) parents standing = tt

pub returns-clause-told : goal.returns-clause-told
returns-clause-told c = tells c.args.log.now (good_tells c.args.log.now c.is_good.ensures)
    c.tell_all.result c.tell_all.ensures.parents c.tell_all.ensures.standing

pub returns-clause-sound : goal.returns-clause-sound
returns-clause-sound c =
    is_sound c.args.log.now (good_tells c.args.log.now c.is_good.ensures) c.tell_all.result
    c.tell_all.ensures.parents c.tell_all.ensures.standing
