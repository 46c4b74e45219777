-- The dominant genotype of a list is that of each list with the same members.
use Rattle.std.proofs.Common.{◌≡◌, ◌∙◌, refl, sym, ap, ℕ, zero, suc, ◌<◌, Bool, true, not, List, [], ◌∷◌, length, get_or, Option, Some, None, map, Less, Equal, Greater, arith, inl, inr}
use Rattle.std.specs.Prelude.{find}
use Rattle.std.specs.FinMap.{nat_cmp-IsAntisymmetric, slice_cmp-IsAntisymmetric}
use Rattle.std.specs.List.{AllPass, Contains, list_all}
use Rattle.std.specs.Ordering.{nat_cmp, ordering_then, ordering_reverse, is_lt}
use Rattle.std.specs.declared.cmp.Ordering.{Ordering}
use Rattle.std.proofs.lemmas.Bool.{cases_Bool}
use Rattle.std.proofs.lemmas.Bool.Decides.{nat_tests}
use Rattle.std.proofs.lemmas.Grind.{common_steps}
use Rattle.std.proofs.lemmas.List.Elements.{Contains-get_or}
use Rattle.std.proofs.lemmas.List.Sums.{AllPass-from_list_all, list_all-from_AllPass}
use Rattle.instruction_set.specs.declared.letter.Letter.{Letter}
use Rattle.instruction_set.proofs.LetterLemmas.{OneIndex}
use Rattle.instruction_set.specs.Letter.{index_of}
use Rattle.census.specs.Counts.{GenotypeCount, HaveSameMembers, dominance_cmp, dominant_among, letters_cmp, outranks}
use Rattle.census.proofs.DominanceLemmas.{dominance-total}

-- what is found passes and is among the elements
found : {X : Type 0} (p : X → Bool) (xs : List X) (a : X) → find p xs ≡ Some a
    → (p a ≡ true) × Contains xs a
found p [] a is = cc
found p (x ∷ xs) a is = elim (cases_Bool (p x)) [
  | inl passes ↦ (let same : x ≡ a = cc (rw passes at is) in
      (rw same at passes, (0, omega arith, same)))
  | inr fails ↦ (let rest = found p xs a (rw fails at is) in
      (rest.0, (suc rest.1.0, omega (arith, rest.1.1), rest.1.2)))
]

-- where an element passes, one is found
finds : {X : Type 0} (p : X → Bool) (xs : List X) (k : ℕ) (d : X) → k < length xs
    → p (get_or xs k d) ≡ true → (a : X) × (find p xs ≡ Some a)
finds p [] k d within passes = absurd (omega (arith, within))
finds p (x ∷ xs) zero d within passes = (x, rw passes refl)
finds p (x ∷ xs) (suc k) d within passes = elim (cases_Bool (p x)) [
  | inl here ↦ (x, rw here refl)
  | inr here ↦ (let rest = finds p xs k d (omega (arith, within)) passes in
      (rest.0, rw here rest.1))
]

-- two lists of letters with the same indexes are one list
letters-of_indexes : OneIndex → (ls others : List Letter) → map index_of ls ≡ map index_of others
    → ls ≡ others
letters-of_indexes one [] [] same = refl
letters-of_indexes one (a ∷ rest) (b ∷ others) same =
    let index : index_of a ≡ index_of b = cc in
    let first : a ≡ b = (one a b).0 (grind (arith, nat_tests, index)) in
    let others_are = letters-of_indexes one rest others (cc) in
    cc
letters-of_indexes one _ _ same = cc

-- neither of two that tie has more or comes first
both-tie : (first second : Ordering) → ordering_then first second ≡ Equal
    → (first ≡ Equal) × (second ≡ Equal)
both-tie Equal second is = (refl, is)
both-tie _ second is = cc

-- two genotypes that tie are one
tied : OneIndex → (a b : GenotypeCount) → dominance_cmp a b ≡ Equal → a ≡ b
tied one a b tie =
    let parts = both-tie (nat_cmp b.count a.count) (letters_cmp a.genome b.genome) tie in
    let count : b.count ≡ a.count = nat_cmp-IsAntisymmetric b.count a.count parts.0 in
    let genome : a.genome ≡ b.genome =
    letters-of_indexes one a.genome b.genome
    (slice_cmp-IsAntisymmetric nat_cmp-IsAntisymmetric (map index_of a.genome)
    (map index_of b.genome) parts.1) in
    λ i. record { genome = genome i; count = sym count i }

-- none of two comes before the other only where they tie
ties : (forth back : Ordering) → forth ≡ ordering_reverse back → not (is_lt forth) ≡ true
    → not (is_lt back) ≡ true → forth ≡ Equal
ties Less back turned a b = cc
ties Equal back turned a b = refl
ties Greater back turned a b = grind (arith, common_steps)

-- one of some genotypes, before which no other comes
record IsBest (genotypes : List GenotypeCount) (best : GenotypeCount) : Type 0 where
  pub among : Contains genotypes best
  pub before : AllPass (λ other. not (outranks other best)) genotypes

-- two best genotypes of a list are one
best-one : OneIndex → (genotypes : List GenotypeCount) (a b : GenotypeCount) → IsBest genotypes a
    → IsBest genotypes b → a ≡ b
best-one one genotypes a b is has =
    let test : GenotypeCount → GenotypeCount → Bool = λ best other. not (outranks other best) in
    let forth : not (outranks a b) ≡ true =
    ap (test b) (sym is.among.2) ∙ has.before is.among.0 a is.among.1 in
    let back : not (outranks b a) ≡ true =
    ap (test a) (sym has.among.2) ∙ is.before has.among.0 b has.among.1 in
    tied one a b (ties (dominance_cmp a b) (dominance_cmp b a) (dominance-total.antisymm a b) forth
    back)

-- the dominant one is the best
best-dominant : (genotypes : List GenotypeCount) (a : GenotypeCount)
    → dominant_among genotypes ≡ Some a → IsBest genotypes a
unfolding dominant_among
best-dominant genotypes a is =
    let at = found (λ genotype. list_all (λ other. not (outranks other genotype)) genotypes)
    genotypes a is in
    record {
      among = at.1;
      before = AllPass-from_list_all (λ other. not (outranks other a)) genotypes at.0;
    }

-- the best is the dominant one
dominant-best_one : OneIndex → (genotypes : List GenotypeCount) (a : GenotypeCount)
    → IsBest genotypes a → dominant_among genotypes ≡ Some a
unfolding dominant_among
dominant-best_one one genotypes a is =
    let test : GenotypeCount → Bool =
    λ genotype. list_all (λ other. not (outranks other genotype)) genotypes in
    let some = finds test genotypes is.among.0 a is.among.1
    (ap test is.among.2 ∙ list_all-from_AllPass (λ other. not (outranks other a)) genotypes
    is.before) in
    some.1 ∙ ap Some (best-one one genotypes some.0 a (best-dominant genotypes some.0 some.1) is)

-- the best of a list is the best of each list with the same members
best-same : (genotypes others : List GenotypeCount) (a : GenotypeCount)
    → HaveSameMembers genotypes others → IsBest genotypes a → IsBest others a
best-same genotypes others a same is =
    let test : GenotypeCount → Bool = λ other. not (outranks other a) in
    record {
      among = same.forth a is.among;
      before = λ k d within. (let here = same.back _ (Contains-get_or others k d within) in
          ap test (sym here.2) ∙ is.before here.0 (get_or others k d) here.1);
    }

-- lists with the same members have the same dominant genotype, or none
pub dominant-same : OneIndex → (genotypes others : List GenotypeCount)
    → HaveSameMembers genotypes others → dominant_among genotypes ≡ dominant_among others
dominant-same one genotypes others same =
    by (dominant_among genotypes) (dominant_among others) refl refl
  where
    by : (first second : Option GenotypeCount) → dominant_among genotypes ≡ first
        → dominant_among others ≡ second → first ≡ second
    by (Some a) second is has =
        sym (dominant-best_one one others a
        (best-same genotypes others a same (best-dominant genotypes a is))) ∙ has
    by None None is has = refl
    by None (Some b) is has =
        let found_too = dominant-best_one one genotypes b
        (best-same others genotypes b (record { forth = same.back; back = same.forth })
        (best-dominant others b has)) in
        cc
