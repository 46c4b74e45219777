-- The genotypes that are counted, as one cell changes.
use Rattle.std.proofs.Common.{◌≡◌, ◌∙◌, refl, sym, ap, ℕ, ◌+◌, ◌<◌, ◌≢◌, ◌⊎◌, Bool, true, false, cond, List, length, set, get_or, get_or-set_same, get_or-set_other, Option, Some, None, is_some, arith, inl, inr}
use Rattle.std.specs.Prelude.{nat_eq, nat_lt, slice_get}
use Rattle.world_core.proofs.Prelude.{count_by, cases_eq, eqb-false, eqb-true, false_from_ne_true, ltb-false, get_or-set_at, length-set, sum_by-set, get_or-le-sum_by, GenotypeCount, genotype_at, living_of, count_under, lowered, genotype_with_one, genotype_without_one, Letter, same_letters, AreCountedIn, AreDifferent, is_genome, OneList}
use Rattle.world_core.proofs.StandingLemmas.{apart, cells_of, count_in, genome-under, is_itself}
use Rattle.world_core.proofs.SumLemmas.{one}

-- what stands in a cell that was changed
read-set : {X : Type 0} (xs : List X) (i k : ℕ) (x d : X) → i < length xs
    → ((k ≡ i) × (get_or (set xs i x) k d ≡ x))
    ⊎ ((k ≢ i) × (get_or (set xs i x) k d ≡ get_or xs k d))
read-set xs i k x d within = elim (cases_eq k i) [
  | inl same ↦ inl (same, get_or-set_at xs i k x d same within)
  | inr other ↦ inr (other, get_or-set_other xs i k x d other)
]

-- how many stand in the cells once one of them has changed
living-set : (standing : List (Option (List Letter))) (cell : ℕ) (was now : Option (List Letter))
    → cell < length standing → get_or standing cell None ≡ was
    → count_by is_some (set standing cell now) + one (is_some was)
    ≡ count_by is_some standing + one (is_some now)
living-set standing cell was now within here =
    omega (
      arith,
      sum_by-set (λ (slot : Option (List Letter)). one (is_some slot)) standing cell now None
          within,
      ap (λ (slot : Option (List Letter)). one (is_some slot)) here,
    )

-- in how many of them a genome stands
cells_of-set : (standing : List (Option (List Letter))) (cell : ℕ)
    (was now : Option (List Letter)) (genome : List Letter) → cell < length standing
    → get_or standing cell None ≡ was
    → cells_of (set standing cell now) genome + one (is_genome genome was)
    ≡ cells_of standing genome + one (is_genome genome now)
cells_of-set standing cell was now genome within here =
    omega (
      arith,
      sum_by-set (λ slot. one (is_genome genome slot)) standing cell now None within,
      ap (λ slot. one (is_genome genome slot)) here,
    )

module _ (one_list : OneList) where
  -- another genome than the one with a number has another number
  other-number : (genomes : List (List Letter)) (key number : ℕ) (genome other : List Letter)
      → AreDifferent genomes → slice_get genomes key ≡ Some genome
      → slice_get genomes number ≡ Some other → nat_eq key number ≡ false
      → same_letters other genome ≡ false
  other-number genomes key number genome other different here there apart =
      false_from_ne_true (same_letters other genome) (λ is.
      eqb-false key number apart (different key number genome here
      (there ∙ ap Some ((one_list other genome).0 is))))

  -- an organism goes
  pub AreCountedIn-removed : (standing : List (Option (List Letter))) (genomes : List (List Letter))
      (keys : List ℕ) (genotypes next : List (ℕ × GenotypeCount)) (cell : ℕ) (genome : List Letter)
      → AreDifferent genomes → cell < length standing → get_or standing cell None ≡ Some genome
      → AreCountedIn standing genomes keys genotypes
      → ((other : ℕ) → genotype_at next other
      ≡ genotype_without_one genotypes (get_or keys cell 0) other)
      → living_of next + 1 ≡ living_of genotypes
      → AreCountedIn (set standing cell None) genomes keys next
  AreCountedIn-removed standing genomes keys genotypes next cell genome different within stands are
      under living = record {
        size = are.size ∙ sym (length-set standing cell None);
        keyed = λ k g is. elim (read-set standing cell k None None within) [
          | inl here ↦ absurd (apart _ g here.1 is)
          | inr there ↦ are.keyed k g (sym there.1 ∙ is)
        ];
        named = λ number g is. named number g (nat_eq key number)
            (nat_lt 1 (count_under genotypes key)) refl (sym (under number) ∙ is);
        counted = λ number g is. ap count_in (under number)
            ∙ counted number g is (nat_eq key number) refl;
        living = omega
            (arith, living, are.living, living-set standing cell (Some genome) None within stands);
      }
    where
      key : ℕ
      key = get_or keys cell 0

      key_is : slice_get genomes key ≡ Some genome
      key_is = are.keyed cell genome stands

      -- there is one at least
      known : count_under genotypes key ≡ cells_of standing genome
      known = are.counted key genome key_is

      least : 0 < count_under genotypes key
      least = omega (
        arith,
        known,
        get_or-le-sum_by (λ slot. one (is_genome genome slot)) standing cell None within,
        ap (λ slot. one (is_genome genome slot)) stands,
        ap one (is_itself one_list genome),
      )

      named : (number : ℕ) (g : GenotypeCount) (a b : Bool) → nat_eq key number ≡ a
          → cond a (cond b (Some (lowered genotypes key)) None) (genotype_at genotypes number)
          ≡ Some g → slice_get genomes number ≡ Some g.genome
      named number g true true at is =
          let same : lowered genotypes key ≡ g = cc in
          rw (← eqb-true key number at, ← same)
          (genome-under one_list standing genomes keys genotypes key are least)
      named number g true false at is = cc
      named number g false b at is = are.named number g is

      lower : (b : Bool) → nat_lt 1 (count_under genotypes key) ≡ b
          → count_in (cond b (Some (lowered genotypes key)) None) + 1 ≡ count_under genotypes key
      lower true is = omega (arith, least)
      lower false is = omega (arith, least, ltb-false 1 (count_under genotypes key) is)

      counted : (number : ℕ) (g : List Letter) → slice_get genomes number ≡ Some g → (a : Bool)
          → nat_eq key number ≡ a
          → count_in (cond a (cond (nat_lt 1 (count_under genotypes key))
          (Some (lowered genotypes key)) None) (genotype_at genotypes number))
          ≡ cells_of (set standing cell None) g
      counted number g is true at =
          let same = eqb-true key number at in
          let one_genome : g ≡ genome = cc key_is in
          omega (
            arith,
            lower (nat_lt 1 (count_under genotypes key)) refl,
            known,
            ap (cells_of (set standing cell None)) one_genome,
            cells_of-set standing cell (Some genome) None genome within stands,
            ap one (is_itself one_list genome),
          )
      counted number g is false at =
          omega (
            arith,
            are.counted number g is,
            cells_of-set standing cell (Some genome) None g within stands,
            ap one (other-number genomes key number genome g different key_is is at),
          )

  -- an organism comes
  pub AreCountedIn-put : (standing : List (Option (List Letter))) (genomes : List (List Letter))
      (keys : List ℕ) (genotypes next : List (ℕ × GenotypeCount)) (cell key : ℕ)
      (genome : List Letter) → AreDifferent genomes → cell < length standing
      → get_or standing cell None ≡ None → slice_get genomes key ≡ Some genome
      → AreCountedIn standing genomes keys genotypes
      → ((other : ℕ) → genotype_at next other ≡ genotype_with_one genotypes key genome other)
      → living_of next ≡ living_of genotypes + 1
      → AreCountedIn (set standing cell (Some genome)) genomes (set keys cell key) next
  AreCountedIn-put standing genomes keys genotypes next cell key genome different within empty
      key_is are under living = record {
        size = length-set keys cell key ∙ are.size ∙ sym (length-set standing cell (Some genome));
        keyed = λ k g is. elim (read-set standing cell k (Some genome) None within) [
          | inl here ↦ let some : Some genome ≡ Some g = sym here.1 ∙ is in
              ap (slice_get genomes) (ap (λ n. get_or (set keys cell key) n 0) here.0
              ∙ get_or-set_same keys cell key 0 (omega (arith, within, are.size))) ∙ key_is ∙ some
          | inr there ↦ let ne = there.0 in
              ap (slice_get genomes) (get_or-set_other keys cell k key 0 ne)
              ∙ are.keyed k g (sym there.1 ∙ is)
        ];
        named =
            λ number g is. named number g (nat_eq key number) refl
            (sym (under number) ∙ is);
        counted = λ number g is. ap count_in (under number)
            ∙ counted number g is (nat_eq key number) refl;
        living = omega
            (arith, living, are.living, living-set standing cell None (Some genome) within empty);
      }
    where
      one_more : GenotypeCount
      one_more = record { genome = genome; count = count_under genotypes key + 1 }

      named : (number : ℕ) (g : GenotypeCount) (a : Bool) → nat_eq key number ≡ a
          → cond a (Some one_more) (genotype_at genotypes number) ≡ Some g
          → slice_get genomes number ≡ Some g.genome
      named number g true at is =
          let same : one_more ≡ g = cc in
          rw (← eqb-true key number at, ← same) key_is
      named number g false at is = are.named number g is

      counted : (number : ℕ) (g : List Letter) → slice_get genomes number ≡ Some g → (a : Bool)
          → nat_eq key number ≡ a
          → count_in (cond a (Some one_more) (genotype_at genotypes number))
          ≡ cells_of (set standing cell (Some genome)) g
      counted number g is true at =
          let same = eqb-true key number at in
          let one_genome : g ≡ genome = cc key_is in
          omega (
            arith,
            are.counted key genome key_is,
            ap (cells_of (set standing cell (Some genome))) one_genome,
            cells_of-set standing cell None (Some genome) genome within empty,
            ap one (is_itself one_list genome),
          )
      counted number g is false at =
          omega (
            arith,
            are.counted number g is,
            cells_of-set standing cell None (Some genome) g within empty,
            ap one (other-number genomes key number genome g different key_is is at),
          )
