-- The lines of a good log tell a pedigree: ids are counted, and parents came before.
use Rattle.std.proofs.Common.{◌≡◌, ◌≢◌, ℕ, zero, suc, ◌+◌, ◌*◌, ◌<◌, ◌≤◌, Bool, cond, eqb, List, [], ◌∷◌, Option, Some, None, Ok, length, map, get_or, set, mul-le-mul, eq-eqb, ne_eqb, refl, sym, ap, ◌∙◌, arith}
use Rattle.std.specs.Prelude.{◌==◌, flat_map, slice_get}
use Rattle.phylogeny.proofs.Prelude.{range_with_len, option_or, length-replicate, length-set, eqb-true, slice_get_within, Letter, Line, Start, Death, Birth, Injected, Cleared, Rate, Count, End, LogPlace, Before, Within, After, opened, at_next_update, told_all, told_birth, told_cleared, told_count, told_death, told_end, told_injected, told_rate, told_start, told, Reader, holds, dweller, newcomer, parent_by_lines, parent_told, pedigree_of, Dweller, AreBelow, HaveLowerIds, IsPedigree, living_from, newcomer_parent, parent_at, parents_in, pedigree_with, standing_after, standing_on}
use Rattle.lineage_log.specs.declared.stage.Stage.TheVariants.{Dying, Placing, Happening}
use Rattle.lineage_log.specs.LogGrammar.{IsGoodLog}
use Rattle.lineage_log.specs.Replay.{Seen, replay_of, residents_from, seen_all, seen_on}
use Rattle.lineage_log.proofs.LogLaws.{went_on, whole_is}
use Rattle.lineage_log.proofs.ReplayLemmas.{birth_told}
use Rattle.lineage_log.proofs.StandingLemmas.{length_without, empty}
use Rattle.phylogeny.proofs.ListLemmas.{get_replicated}
use Rattle.phylogeny.proofs.ReaderLemmas.{below_with, IsAt, IsPlaceAt, within_gives, tested, death_at, newcomer_at, next_id}

-- ---- what the lines that are left tell

-- these lines tell of the ids from a count on alone, with older parents, in as many cells
record Follows (count : ℕ) (standing : List (Option ℕ)) (lines : List Line) : Type 0 where
  older : (i above : ℕ) → parent_at (parents_in lines) i ≡ Some above → above < count + i
  early : (id : ℕ) → id < count → parent_by_lines lines id ≡ None
  looked : (i : ℕ) → parent_by_lines lines (count + i) ≡ parent_at (parents_in lines) i
  ids : flat_map newcomer lines ≡ range_with_len count (length (parents_in lines))
  below : AreBelow (count + length (parents_in lines)) (standing_after standing lines)
  cells : length (standing_after standing lines) ≡ length standing

-- so it is of no lines, where who stands in a cell has an id below the count
nothing_follows : (count : ℕ) (standing : List (Option ℕ)) → AreBelow count standing
    → Follows count standing []
nothing_follows count standing below = record {
  older = λ i above is. absurd cc;
  early = λ id few. refl;
  looked = λ i. refl;
  ids = refl;
  below = λ cell id is. let b = below cell id is in omega arith;
  cells = refl;
}

-- an option, or else none, is that option
or_none : (o : Option ℕ) → option_or o None ≡ o
or_none o = grind arith

-- the next id with an older parent before ids with older parents: all parents are older
older_still : (count : ℕ) (parent : Option ℕ) (others : List (Option ℕ))
    → ((above : ℕ) → parent ≡ Some above → above < count)
    → ((i above : ℕ) → parent_at others i ≡ Some above → above < count + 1 + i) → (i above : ℕ)
    → parent_at (parent ∷ others) i ≡ Some above → above < count + i
older_still count parent others older later zero above is = omega (arith, older above is)
older_still count parent others older later (suc i) above is = omega (arith, later i above is)

-- a line that tells only the parent of the next id: all parents are told as they are listed
looked_still : (count : ℕ) (parent : Option ℕ) (others : List (Option ℕ))
    (now later : ℕ → Option ℕ) → ((id : ℕ) → count ≢ id → now id ≡ later id) → now count ≡ parent
    → ((i : ℕ) → later (count + 1 + i) ≡ parent_at others i) → (i : ℕ)
    → now (count + i) ≡ parent_at (parent ∷ others) i
looked_still count parent others now later other here looked zero =
    let e : count + 0 ≡ count = omega arith in ap now e ∙ here
looked_still count parent others now later other here looked (suc i) =
    let e : count + suc i ≡ count + 1 + i = omega arith in
    other (count + suc i) (λ same. absurd (omega arith)) ∙ ap later e ∙ looked i

-- whatever a test says, a choice between an option and itself is that option
either_way : (o : Option ℕ) (b : Bool) → o ≡ cond b o o
either_way o b = grind arith

-- a founder before ids whose parents are told as they are listed: all are told so
founder_looked : (now : ℕ → Option ℕ) (parents : List (Option ℕ)) → now 0 ≡ None
    → ((i : ℕ) → now (1 + i) ≡ parent_at parents i) → (id : ℕ)
    → now id ≡ parent_at (None ∷ parents) id
founder_looked now parents founder looked zero = founder
founder_looked now parents founder looked (suc i) =
    let e : suc i ≡ 1 + i = omega arith in ap now e ∙ looked i

-- a founder before ids with older parents: all parents are older
founder_older : (parents : List (Option ℕ))
    → ((i above : ℕ) → parent_at parents i ≡ Some above → above < 1 + i)
    → HaveLowerIds (None ∷ parents)
founder_older parents older zero above is = absurd cc
founder_older parents older (suc i) above is = let b = older i above is in omega arith

-- a line by which nobody comes, and who stands in the cells after it
stays : (count : ℕ) (standing next : List (Option ℕ)) (line : Line) (lines : List Line)
    → newcomer line ≡ [] → newcomer_parent line ≡ [] → ((id : ℕ) → parent_told id line ≡ None)
    → standing_on standing line ≡ next → length next ≡ length standing
    → Follows count next lines → Follows count standing (line ∷ lines)
stays count standing next line lines nobody no_parent untold stands cells follows = record {
  older = rw no_parent follows.older;
  early = λ id few. rw (untold id) (follows.early id few);
  looked = λ i. rw (untold (count + i), no_parent) (follows.looked i);
  ids = rw (nobody, no_parent) follows.ids;
  below = rw (no_parent, stands) follows.below;
  cells = rw stands (follows.cells ∙ cells);
}

-- a line by which somebody comes, with the next id, of an older parent if of any
comes : (count : ℕ) (standing next : List (Option ℕ)) (line : Line) (parent : Option ℕ)
    (lines : List Line)
    → newcomer line ≡ count ∷ [] → newcomer_parent line ≡ parent ∷ []
    → ((id : ℕ) → parent_told id line ≡ cond (eqb count id) parent None)
    → ((above : ℕ) → parent ≡ Some above → above < count) → standing_on standing line ≡ next
    → length next ≡ length standing
    → Follows (count + 1) next lines → Follows count standing (line ∷ lines)
comes count standing next line parent lines somebody its_parent told older stands cells follows =
    let other : (id : ℕ) → count ≢ id
    → parent_by_lines (line ∷ lines) id ≡ parent_by_lines lines id =
    λ id apart. rw (told id, ne_eqb count id apart) refl in
    record {
      older = rw its_parent (older_still count parent (parents_in lines) older follows.older);
      early = λ id few. other id (λ e. absurd (omega arith)) ∙ follows.early id (omega arith);
      looked = rw its_parent (looked_still count parent (parents_in lines)
          (parent_by_lines (line ∷ lines)) (parent_by_lines lines) other
          (rw (told count, eq-eqb count count refl, follows.early count (omega arith)) (or_none parent))
          follows.looked);
      ids = rw (somebody, its_parent) (ap (λ (ids : List ℕ). count ∷ ids) follows.ids);
      below = rw (its_parent, stands)
          (λ cell id at. omega (arith, follows.below cell id at));
      cells = rw stands (follows.cells ∙ cells);
    }

-- the lines from a place on, up to the end of the log
follow : (p : LogPlace) (lines : List Line) (q : Reader) (count : ℕ) (standing : List (Option ℕ))
    → told_all p lines ≡ Ok (After q) → IsPlaceAt p count standing → Follows count standing lines
unfolding told_death told_birth told_injected told_cleared told_rate told_count told_end
follow Before lines q count standing is now = absurd now
follow (Within r) [] q count standing is now = nothing_follows count standing now.below
follow (After r) [] q count standing is now = nothing_follows count standing now.below
follow (Within r) (Death id update cell ∷ lines) q count standing is now =
    let step =
    went_on (told (Within r) (Death id update cell)) (λ p. told_all p lines) (After q) is in
    let after = within_gives _ _ step.0 count (set standing cell None) step.1
    (λ _. death_at r (Dying cell) cell id count standing now) in
    stays count standing _ (Death id update cell) lines refl refl (λ _. refl) refl
    (length-set standing cell None) (follow step.0 lines q count _ step.2 after)
follow (Within r) (Birth id parent update cell over birth ∷ lines) q count standing is now =
    let step = went_on (told (Within r) (Birth id parent update cell over birth))
    (λ p. told_all p lines) (After q) is in
    let born = birth_told r id parent update cell over birth step.0 step.1 in
    let next = eqb-true id (length r.people) born.4 ∙ now.as_many in
    let within = slice_get_within r.people parent (Some born.0) born.2 in
    let after : IsPlaceAt step.0 (count + 1) (set standing cell (Some id)) = rw born.6
    (newcomer_at r Placing cell id over born.1 (r.births + 1) count standing next now) in
    comes count standing _ (Birth id parent update cell over birth) (Some parent) lines
    (ap (λ (n : ℕ). n ∷ []) next) refl
    (λ x. ap (λ (n : ℕ). cond (eqb n x) (Some parent) None) next)
    (λ above same. let e : parent ≡ above = cc in omega (arith, within, now.as_many)) refl
    (length-set standing cell (Some id)) (follow step.0 lines q (count + 1) _ step.2 after)
follow (Within r) (Injected id update cell over genome ∷ lines) q count standing is now =
    let step = went_on (told (Within r) (Injected id update cell over genome))
    (λ p. told_all p lines) (After q) is in
    let next = next_id (r.version == 2) (update == r.due) (holds (slice_get r.standing cell) over)
    id count r.people now.as_many (tested _ _ step.0 step.1) in
    let after = within_gives _ _ step.0 (count + 1) (set standing cell (Some id)) step.1
    (λ _. newcomer_at r Happening cell id over genome r.births count standing next now) in
    comes count standing _ (Injected id update cell over genome) None lines
    (ap (λ (n : ℕ). n ∷ []) next) refl (λ x. either_way None (eqb count x))
    (λ above same. absurd cc) refl (length-set standing cell (Some id))
    (follow step.0 lines q (count + 1) _ step.2 after)
follow (Within r) (Cleared id update cell ∷ lines) q count standing is now =
    let step =
    went_on (told (Within r) (Cleared id update cell)) (λ p. told_all p lines) (After q) is in
    let after = within_gives _ _ step.0 count (set standing cell None) step.1
    (λ _. death_at r Happening cell id count standing now) in
    stays count standing _ (Cleared id update cell) lines refl refl (λ _. refl) refl
    (length-set standing cell None) (follow step.0 lines q count _ step.2 after)
follow (Within r) (Rate update name ppm ∷ lines) q count standing is now =
    let step =
    went_on (told (Within r) (Rate update name ppm)) (λ p. told_all p lines) (After q) is in
    let after = within_gives _ (record r { stage = Happening }) step.0 count standing step.1
    (λ _. record { as_many = now.as_many; same = now.same; below = now.below }) in
    stays count standing standing (Rate update name ppm) lines refl refl (λ _. refl) refl refl
    (follow step.0 lines q count standing step.2 after)
follow (Within r) (Count s ∷ lines) q count standing is now =
    let step = went_on (told (Within r) (Count s)) (λ p. told_all p lines) (After q) is in
    let after = within_gives _ (at_next_update r) step.0 count standing step.1
    (λ _. record {
      as_many = length_without r.leaving r.people ∙ now.as_many;
      same = now.same;
      below = now.below;
    }) in
    stays count standing standing (Count s) lines refl refl (λ _. refl) refl refl
    (follow step.0 lines q count standing step.2 after)
follow (Within r) (End updates ∷ lines) q count standing is now =
    let step = went_on (told (Within r) (End updates)) (λ p. told_all p lines) (After q) is in
    let same : step.0 ≡ After r = let e = step.1 in grind arith in
    let after : IsPlaceAt step.0 count standing = rw same now in
    stays count standing standing (End updates) lines refl refl (λ _. refl) refl refl
    (follow step.0 lines q count standing step.2 after)
follow _ _ q count standing is now = absurd cc

-- ---- a whole log

-- the lists that the lines of a log make, as a pedigree
pub record IsToldBy (lines : List Line) : Type 0 where
  pub looked : (id : ℕ) → parent_by_lines lines id ≡ parent_at (parents_in lines) id
  pub ids : flat_map newcomer lines ≡ range_with_len 0 (length (parents_in lines))
  pub sound : IsPedigree (parents_in lines) (standing_after [] lines)

-- after the first line the reader knows one id, and the cells that the line tells
founded : (version width height cell : ℕ) (genome : List Letter)
    → IsAt (opened version (width * height) cell genome) 1
    (standing_on [] (Start version width height cell genome))
founded version width height cell genome = record {
  as_many = refl;
  same = refl;
  below = below_with 0 (empty (width * height)) cell 0 refl
      (λ c id is.
      let none : get_or (empty (width * height)) c None ≡ None =
      get_replicated (width * height) c None in absurd cc);
}

-- a good log that leads to a reader after its last line tells a pedigree
told_by : (lines : List Line) (q : Reader) → IsGoodLog lines → told_all Before lines ≡ Ok (After q)
    → IsToldBy lines
unfolding told_start
told_by (Start version width height cell genome ∷ lines) q good is =
    let step = went_on (told_start version width height cell genome) (λ p. told_all p lines)
    (After q) is in
    let slots = standing_on [] (Start version width height cell genome) in
    let first = within_gives _ _ step.0 1 slots step.1
    (λ _. founded version width height cell genome) in
    let rest = follow step.0 lines q 1 slots step.2 first in
    let few : width * height ≤ 65536 = mul-le-mul good.forms.0.1.1 good.forms.0.2.1 in
    record {
      looked = founder_looked (parent_by_lines lines) (parents_in lines)
          (rest.early 0 (omega arith))
          rest.looked;
      ids = ap (λ (ids : List ℕ). 0 ∷ ids) rest.ids;
      sound = record {
        older = founder_older (parents_in lines) rest.older;
        among = λ c id there. let b = rest.below c id there in omega arith;
        few = omega (
          arith,
          rest.cells,
          length-set (empty (width * height)) cell (Some 0),
          length-replicate {A = Option ℕ} (width * height) None,
          few,
        );
      };
    }
told_by _ q good is = absurd cc

-- a good log tells a pedigree
pub good_tells : (lines : List Line) → IsGoodLog lines → IsToldBy lines
good_tells lines good =
    let whole = whole_is (told_all Before lines) good.order in told_by lines whole.0 good whole.1

-- ---- who lives

-- after a line the replay sees the same in the cells as the pedigree
seen_standing : (s : Seen) (line : Line) → (seen_on s line).standing ≡ standing_on s.standing line
seen_standing s (Start version width height cell genome) = refl
seen_standing s _ = refl

-- so it does after all lines
seen_after : (s : Seen) (lines : List Line)
    → (seen_all s lines).standing ≡ standing_after s.standing lines
seen_after s [] = refl
seen_after s (line ∷ lines) = seen_after (seen_on s line) lines
    ∙ ap (λ (slots : List (Option ℕ)). standing_after slots lines) (seen_standing s line)

-- who lives from a cell on is who resides there, without the genome
dwellers : (cell : ℕ) (slots : List (Option ℕ)) (genomes : List (List Letter))
    → living_from cell slots ≡ map dweller (residents_from cell slots genomes)
dwellers cell [] genomes = refl
dwellers cell (None ∷ slots) genomes = dwellers (suc cell) slots genomes
dwellers cell (Some id ∷ slots) genomes =
    ap (λ (ds : List Dweller). record { cell = cell; id = id } ∷ ds)
    (dwellers (suc cell) slots genomes)

-- who lives after the lines of a log is who lives by its replay, without the genome
living_is : (lines : List Line)
    → living_from 0 (standing_after [] lines) ≡ map dweller (replay_of lines)
unfolding replay_of
living_is lines =
    let none : Seen = record { standing = []; genomes = [] } in
    ap (living_from 0) (sym (seen_after none lines))
    ∙ dwellers 0 (seen_all none lines).standing (seen_all none lines).genomes

-- the lists that the lines make are the pedigree of the log
pub pedigree_is : (lines : List Line) → IsToldBy lines
    → pedigree_with (parents_in lines) (standing_after [] lines) ≡ pedigree_of lines
unfolding pedigree_of
pedigree_is lines told = λ i. record {
  parent_of = λ id. sym (told.looked id) i;
  everyone = sym told.ids i;
  living = living_is lines i;
}
