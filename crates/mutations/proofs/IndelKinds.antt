-- All indels that a pass draws are of its kind.
use Rattle.std.proofs.Common.{ℕ, zero, suc, eqb, Bool, true, false, cond}
use Rattle.mutations.proofs.Prelude.{AllByRecursion, Indel, Insertion, Deletion, IndelTest, RateNumbers, LengthRange, Drawn, none_by, Draft, Spot, indel_at, test_at, site_rate, site_indel, indels_from, site_indels, indels}
use Rattle.mutations.proofs.IndelLemmas.{IsIndel, picked}
use Rattle.genome.proofs.ListLemmas.{all_append}

-- all changes that are drawn are of a kind
abbrev pub AreOfKind : Indel → Drawn → Type 0
AreOfKind kind drawn = AllByRecursion (IsIndel kind) drawn.changes

-- the indel at a spot, or none
indel-kind : (kind : Indel) (hit : Bool) (words : ℕ → ℕ) (spot : Spot) (k : ℕ)
    → AreOfKind kind (cond hit (indel_at kind words spot) (none_by k))
indel-kind kind false words spot k = tt
indel-kind Insertion true words spot k = (tt, tt)
indel-kind Deletion true words spot k = (tt, tt)

-- what the test of a letter draws
pub site_indel-kind : (test : IndelTest) (words : ℕ → ℕ) (len : ℕ) (spot : Spot)
    → AreOfKind test.kind (site_indel test words len spot)
site_indel-kind test words len spot = indel-kind test.kind _ words _ _

-- what the tests of the last letters draw
indels_from-kind : (test : IndelTest) (words : ℕ → ℕ) (left : ℕ) (spot : Spot)
    → AreOfKind test.kind (indels_from test words left spot)
indels_from-kind test words zero spot = tt
indels_from-kind test words (suc left) spot =
    all_append (IsIndel test.kind) _ _ (site_indel-kind test words _ spot)
    (indels_from-kind test words left _)

-- what the tests of all letters draw
pub site_indels-kind : (test : IndelTest) (words : ℕ → ℕ) (draft : Draft)
    → AreOfKind test.kind (site_indels test words draft)
site_indels-kind test words draft =
    picked (AreOfKind test.kind) (eqb test.rate 0) _ _ (λ _. tt)
    (indels_from-kind test words draft.size _)

-- what both passes draw
pub indels-kind : (kind : Indel) (rates : RateNumbers) (range : LengthRange) (words : ℕ → ℕ)
    (draft : Draft) → AreOfKind kind (indels kind rates range words draft)
indels-kind kind rates range words draft =
    all_append (IsIndel kind) _ _
    (site_indels-kind (test_at kind (site_rate kind rates) range) words draft)
    (indel-kind kind _ words _ _)
