-- What a reader has kept of a log is who lives at its end.
use Rattle.std.proofs.Common.{◌≡◌, ℕ, zero, suc, mul-le-mul, ◌+◌, ◌≤◌, Bool, true, List, [], ◌∷◌, ◌++◌, Option, Some, None, Ok, length, refl, sym, subst, ◌∙◌, arith}
use Rattle.std.specs.Prelude.{◌==◌, ◌&&◌, ◌*◌, slice_get, slice_set, unwrap_or}
use Rattle.lineage_log.proofs.Prelude.{and_parts, eqb-true, nat_tests, length-append, length-replicate, length-set, slice_get-map, Letter, BirthRecord, child_of, Line, Start, Death, Birth, Injected, Cleared, Rate, Count, End, holds, Reader, reader_with_newcomer, reader_with_death, EachIsKept, kept_genomes, LogPlace, Before, Within, After, within_if, opened, told_start, told_death, told_birth, told_injected, told_cleared, told_rate, told_count, told_end, told, told_all, IsGoodLog, Seen, seen_on, seen_all, residents_from, replay_of}
use Rattle.lineage_log.specs.declared.stage.Stage.{Stage}
use Rattle.lineage_log.specs.declared.stage.Stage.TheVariants.{Dying, Placing, Happening}
use Rattle.lineage_log.proofs.LogLaws.{went_on, place_is}
use Rattle.lineage_log.proofs.StandingLemmas.{get_written, get_pushed, get_more, get_seam, empty, none_there, People, length_without, kept_before, IsTidy, tidy_death, tidy_newcomer, tidy_renewed}

-- ---- a reader beside what the definition of replay sees

-- the same cells, as many ids, and the genomes that are kept are those that are seen
record Agrees (r : Reader) (s : Seen) : Type 0 where
  same : r.standing ≡ s.standing
  as_many : length r.people ≡ length s.genomes
  kept : (id : ℕ) (letters : List Letter) → slice_get r.people id ≡ Some (Some letters)
      → slice_get s.genomes id ≡ Some letters
  tidy : IsTidy r.standing r.people r.leaving
  few : length r.standing ≤ 65536

-- the same of the reader of a place, which is not before the first line
abbrev AgreesAt : LogPlace → Seen → Type 0
AgreesAt Before s = ⊥
AgreesAt (Within r) s = Agrees r s
AgreesAt (After r) s = Agrees r s

-- a cell that holds something is found with exactly that
holds_is : (found : Option (Option ℕ)) (slot : Option ℕ) → holds found slot ≡ true
    → found ≡ Some slot
holds_is found slot is = grind (arith, nat_tests)

-- a place that a line's test gives agrees, if its reader agrees where the test holds
within_gives : (test : Bool) (r : Reader) (p : LogPlace) (s : Seen) → within_if test r ≡ Ok p
    → (test ≡ true → Agrees r s) → AgreesAt p s
within_gives test r p s is good = grind arith

-- there are no more than 65536 cells still once one is set
few_still : (standing : List (Option ℕ)) (cell : ℕ) (slot : Option ℕ) → length standing ≤ 65536
    → length (slice_set standing cell slot) ≤ 65536
few_still standing cell slot few = omega (arith, length-set standing cell slot)

-- the two agree still once who stands in a cell has died
death_agrees : (r : Reader) (s : Seen) (stage : Stage) (cell id : ℕ) → Agrees r s
    → holds (slice_get r.standing cell) (Some id) ≡ true
    → Agrees (reader_with_death r stage cell id)
    (record s { standing = slice_set s.standing cell None })
death_agrees r s stage cell id agrees stood = record {
  same = rw agrees.same;
  as_many = agrees.as_many;
  kept = agrees.kept;
  tidy = tidy_death r.standing r.people r.leaving agrees.tidy cell id
      (holds_is (slice_get r.standing cell) (Some id) stood);
  few = few_still r.standing cell None agrees.few;
}

-- with a newcomer's genome in both, what is kept is still what is seen
newcomer_kept : (r : Reader) (s : Seen) (genome : List Letter) → Agrees r s
    → (id : ℕ) (letters : List Letter)
    → slice_get (r.people ++ Some genome ∷ []) id ≡ Some (Some letters)
    → slice_get (s.genomes ++ genome ∷ []) id ≡ Some letters
newcomer_kept r s genome agrees id letters is =
    grind (
      arith,
      get_pushed r.people (Some genome) (Some letters) id is,
      λ (old : slice_get r.people id ≡ Some (Some letters)).
          get_more s.genomes (genome ∷ []) id letters (agrees.kept id letters old),
      get_seam s.genomes [] genome,
    )

-- the two agree still once a newcomer with the next id stands in a cell
newcomer_agrees : (r : Reader) (s : Seen) (stage : Stage) (id cell : ℕ) (over : Option ℕ)
    (genome : List Letter) (births : ℕ) → Agrees r s → (id == length r.people) ≡ true
    → holds (slice_get r.standing cell) over ≡ true
    → Agrees (reader_with_newcomer r stage cell over genome births)
    (record { standing = slice_set s.standing cell (Some id); genomes = s.genomes ++ genome ∷ [] })
newcomer_agrees r s stage id cell over genome births agrees next stood = record {
  same = rw (← eqb-true id (length r.people) next, agrees.same);
  as_many = simp (length-append, agrees.as_many);
  kept = newcomer_kept r s genome agrees;
  tidy = tidy_newcomer r.standing r.people r.leaving agrees.tidy cell over genome
      (holds_is (slice_get r.standing cell) over stood);
  few = few_still r.standing cell (Some (length r.people)) agrees.few;
}

-- ---- a birth

-- what a birth tells: its parent is kept, and its child has the next id in its cell
pub birth_told : (r : Reader) (id parent update cell : ℕ) (over : Option ℕ) (birth : BirthRecord)
    (p : LogPlace) → told_birth r id parent update cell over birth ≡ Ok p
    → (letters child : List Letter) × (slice_get r.people parent ≡ Some (Some letters))
    × (child_of letters birth ≡ Ok child) × ((id == length r.people) ≡ true)
    × (holds (slice_get r.standing cell) over ≡ true)
    × (p ≡ Within (reader_with_newcomer r Placing cell over child (r.births + 1)))
unfolding told_birth
birth_told r id parent update cell over birth p is = grind arith

-- ---- the lines

-- the two agree still after a line within the log
line_agrees : (r : Reader) (s : Seen) (line : Line) (p : LogPlace) → Agrees r s
    → told (Within r) line ≡ Ok p → AgreesAt p (seen_on s line)
unfolding told_death told_birth told_injected told_cleared told_rate told_count told_end
line_agrees r s (Start version width height cell genome) p agrees is = absurd cc
line_agrees r s (Death id update cell) p agrees is =
    within_gives _ _ p _ is (λ t. death_agrees r s (Dying cell) cell id agrees
    (and_parts _ (holds (slice_get r.standing cell) (Some id)) t).1)
line_agrees r s (Birth id parent update cell over birth) p agrees is =
    let told = birth_told r id parent update cell over birth p is in
    rw (told.6, agrees.kept parent told.0 told.2, told.3)
    (newcomer_agrees r s Placing id cell over told.1 (r.births + 1) agrees told.4 told.5)
line_agrees r s (Injected id update cell over genome) p agrees is =
    within_gives _ _ p _ is (λ t. let tests =
    and_parts (_ && (id == length r.people)) (holds (slice_get r.standing cell) over) t in
    newcomer_agrees r s Happening id cell over genome r.births agrees
    (and_parts _ (id == length r.people) tests.0).1 tests.1)
line_agrees r s (Cleared id update cell) p agrees is =
    within_gives _ _ p _ is (λ t. death_agrees r s Happening cell id agrees
    (and_parts _ (holds (slice_get r.standing cell) (Some id)) t).1)
line_agrees r s (Rate update name ppm) p agrees is =
    within_gives _ (record r { stage = Happening }) p s is (λ t. record {
      same = agrees.same;
      as_many = agrees.as_many;
      kept = agrees.kept;
      tidy = agrees.tidy;
      few = agrees.few;
    })
line_agrees r s (Count c) p agrees is =
    within_gives _ _ p s is (λ t. record {
      same = agrees.same;
      as_many = length_without r.leaving r.people ∙ agrees.as_many;
      kept = λ id letters is. agrees.kept id letters
          (kept_before r.leaving r.people id letters is);
      tidy = tidy_renewed r.standing r.people r.leaving agrees.tidy;
      few = agrees.few;
    })
line_agrees r s (End updates) p agrees is =
    let same : p ≡ After r = grind arith in rw same agrees

-- the two agree still after all lines up to the last
all_agree : (p : LogPlace) (s : Seen) (lines : List Line) (q : Reader) → AgreesAt p s
    → told_all p lines ≡ Ok (After q) → Agrees q (seen_all s lines)
all_agree p s [] q agrees is =
    subst (λ (x : LogPlace). AgreesAt x s) (place_is p (After q) is) agrees
all_agree Before s (line ∷ lines) q agrees is = absurd agrees
all_agree (Within r) s (line ∷ lines) q agrees is =
    let step = went_on (told (Within r) line) (λ p. told_all p lines) (After q) is in
    all_agree step.0 (seen_on s line) lines q (line_agrees r s line step.0 agrees step.1) step.2
all_agree (After r) s (line ∷ lines) q agrees is = absurd cc

-- ---- the first line

-- the cells after the first line, with the founder in one of them
abbrev first_cells : ℕ → ℕ → List (Option ℕ)
first_cells cells cell = slice_set (empty cells) cell (Some 0)

-- who stands in one of them is the founder, in its cell
first_there : (cells cell c i : ℕ) → slice_get (first_cells cells cell) c ≡ Some (Some i)
    → (cell ≡ c) × (0 ≡ i)
first_there cells cell c i is =
    grind (arith, get_written (empty cells) cell c (Some 0) i is, none_there cells c i)

-- a genome that is kept after the first line is seen there too
first_kept : (genome : List Letter) (id : ℕ) (letters : List Letter)
    → slice_get (Some genome ∷ []) id ≡ Some (Some letters)
    → slice_get (genome ∷ []) id ≡ Some letters
first_kept genome zero letters is = cc
first_kept genome (suc id) letters is = absurd cc

-- after the first line who stands in a cell stands there alone, is kept and has not died
first_tidy : (cells cell : ℕ) (genome : List Letter)
    → IsTidy (first_cells cells cell) (Some genome ∷ []) []
first_tidy cells cell genome = record {
  present = λ c i is. (genome, rw (← (first_there cells cell c i is).1));
  staying = λ c i is. tt;
  once = λ a b i at_a at_b. sym (first_there cells cell a i at_a).0
      ∙ (first_there cells cell b i at_b).0;
  gone = tt;
}

-- the two agree after the first line
first_agrees : (version cells cell : ℕ) (genome : List Letter) → cells ≤ 65536
    → Agrees (opened version cells cell genome)
    (record { standing = first_cells cells cell; genomes = genome ∷ [] })
first_agrees version cells cell genome few = record {
  same = refl;
  as_many = refl;
  kept = first_kept genome;
  tidy = first_tidy cells cell genome;
  few = few_still (empty cells) cell (Some 0) (omega (arith, length-replicate {A = Option ℕ} cells None));
}

-- before the first line
abbrev pub nobody : Seen
nobody = record { standing = []; genomes = [] }

-- ---- who lives at the end

-- who resides has the same genome in both lists, if each one's is kept and seen
residents_same : (cell : ℕ) (slots : List (Option ℕ)) (people : People)
    (genomes : List (List Letter))
    → ((k id : ℕ) → slice_get slots k ≡ Some (Some id) → (letters : List Letter)
    × (slice_get people id ≡ Some (Some letters)) × (slice_get genomes id ≡ Some letters))
    → residents_from cell slots (kept_genomes people) ≡ residents_from cell slots genomes
residents_same cell [] people genomes each = refl
residents_same cell (None ∷ slots) people genomes each =
    residents_same (suc cell) slots people genomes (λ k id is. each (suc k) id is)
residents_same cell (Some id ∷ slots) people genomes each =
    let found = each 0 id refl in
    rw (
      slice_get-map (λ (found : Option (List Letter)). unwrap_or found []) people id,
      found.1,
      found.2,
      residents_same (suc cell) slots people genomes (λ k i is. each (suc k) i is),
    )

-- ---- a whole log

-- what a whole log leaves
pub record Leaves (lines : List Line) (r : Reader) : Type 0 where
  pub kept : EachIsKept r.standing r.people
  pub few : length r.standing ≤ 65536
  pub living : residents_from 0 r.standing (kept_genomes r.people) ≡ replay_of lines

-- a reader that agrees at the end is what a whole log leaves
agreed : (lines : List Line) (r : Reader) → Agrees r (seen_all nobody lines) → Leaves lines r
unfolding replay_of
agreed lines r agrees =
    let s = seen_all nobody lines in
    record {
      kept = λ cell id is. let found = agrees.tidy.present cell id is in
          rw found.1 refl;
      few = agrees.few;
      living = rw (← agrees.same) (residents_same 0 r.standing r.people s.genomes (λ k id is.
          let found = agrees.tidy.present k id is in
          (found.0, found.1, agrees.kept id found.0 found.1)));
    }

-- so is the reader of a good log that is told to its end
pub leaves : (lines : List Line) (r : Reader) → IsGoodLog lines
    → told_all Before lines ≡ Ok (After r) → Leaves lines r
unfolding told_start
leaves (Start version width height cell genome ∷ lines) r good is =
    let step = went_on (told_start version width height cell genome) (λ p. told_all p lines)
    (After r) is in
    let s = seen_on nobody (Start version width height cell genome) in
    let few = mul-le-mul good.forms.0.1.1 good.forms.0.2.1 in
    agreed (Start version width height cell genome ∷ lines) r (all_agree step.0 s lines r
    (within_gives _ _ step.0 s step.1
    (λ t. first_agrees version (width * height) cell genome few)) step.2)
leaves _ r good is = absurd cc
