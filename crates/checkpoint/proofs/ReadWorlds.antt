-- A saved world that is read can be written.
use Rattle.std.proofs.Common.{◌≡◌, ℕ, ◌==◌, Bool, true, false, List, [], ◌∷◌, ◌++◌, length, Option, Some, None, Result, Ok, Err, refl, subst}
use Rattle.checkpoint.proofs.Prelude.{AllByRecursion, All-from_recursion, CpuImage, HasSavedForm, IsMachineLine, IsOrganismLine, SavedLine, Head, Organism, Count, HeadValues, OrganismValues, SavedPlace, Before, Among, Halfway, After, Placed, may_follow, may_stand, placed_of, saved_of, state_of_lines, told_saved_line, SavedState, AreSaved, IsHead, MayStandThere, IsWritable}
use Rattle.lineage_log.specs.NumberedLines.{Fault, HasGoodLines, told_each}
use Rattle.lineage_log.proofs.LineWalkLaws.{went_on}
use Rattle.saved_worlds.proofs.ReadsSavedLemmas.{saved_is_read}
use Rattle.saved_worlds.specs.SavedGrammar.{ReadsSaved, last_state, saved_answer, saved_kind}
use Rattle.std.specs.Option.{ok_or}
use Rattle.log_lines.specs.Fields.{given}
use Rattle.saved_lines.specs.SavedText.{Machine}
use Rattle.checkpoint.proofs.KeptLemmas.{saved_more}
use Rattle.checkpoint.proofs.StandsLemmas.{follows_by_rules, may_stand_there, stands_by_rules}

-- what is known at each place of the lines
abbrev IsGood : SavedPlace → Type 0
IsGood Before = Unit {0}
IsGood (Among head placed) = AreSaved head placed
IsGood (Halfway head placed o) =
    AreSaved head placed × (may_stand head placed o ≡ true) × IsOrganismLine o
IsGood (After state) = IsWritable state

-- what follows where a test holds
if_holds : (test : Bool) (place next : SavedPlace) → given test place ≡ Some next
    → (test ≡ true → IsGood place) → IsGood next
if_holds true place next h good =
    let same : place ≡ next = cc in subst IsGood same (good refl)
if_holds false place next h good = absurd cc

-- no organism was told yet
none_saved : (head : HeadValues) → IsHead head → AreSaved head []
none_saved head is = record {
  values = is;
  each = All-from_recursion (MayStandThere head) [] tt;
  rising = λ place next one other before h k. absurd cc;
}

-- one organism more
one_saved : (head : HeadValues) (placed : List Placed) (o : OrganismValues) (image : CpuImage)
    → IsGood (Halfway head placed o) → IsMachineLine image → may_follow head o image ≡ true
    → AreSaved head (placed ++ placed_of head o image ∷ [])
one_saved head placed o image good read follows =
    let by_rules = stands_by_rules head placed o good.1 in
    saved_more head placed (placed_of head o image) good.0
    (may_stand_there head o image placed good.0.values good.2 read by_rules
    (follows_by_rules head o image follows)) by_rules.above by_rules.fresh

-- a saved world that can be made of lines can be written
abbrev pub LinesAreWritable : Type 0
LinesAreWritable = (head : HeadValues) (placed : List Placed) → AreSaved head placed
    → IsWritable (state_of_lines head placed)

-- what was told as a result was told
some_told : {A : Type 0} {a : A} (o : Option A) → ok_or o (tt {0}) ≡ Ok a → o ≡ Some a
some_told None is = absurd cc
some_told (Some a) is = cc

module _ (made : LinesAreWritable) where
  -- the place after one line more
  told_good : (place next : SavedPlace) (line : SavedLine) → HasSavedForm line → IsGood place
      → told_saved_line place line ≡ Some next → IsGood next
  told_good Before next (Head head) read good h =
      let same : Among head [] ≡ next = cc in subst IsGood same (none_saved head read)
  told_good Before next _ read good h = absurd cc
  told_good (Among head placed) next (Organism o) read good h =
      if_holds (may_stand head placed o) (Halfway head placed o) next h
      (λ stands. (good, stands, read))
  told_good (Among head placed) next (Count organisms) read good h =
      if_holds (organisms == length placed) (After (state_of_lines head placed)) next h
      (λ same. made head placed good)
  told_good (Among head placed) next _ read good h = absurd cc
  told_good (Halfway head placed o) next (Machine image) read good h =
      if_holds (may_follow head o image) (Among head (placed ++ placed_of head o image ∷ [])) next h
      (λ follows. one_saved head placed o image good read follows)
  told_good (Halfway head placed o) next _ read good h = absurd cc
  told_good (After state) next line read good h = absurd cc

  -- the place after all lines
  lines_good : (place to : SavedPlace) (lines : List SavedLine) → AllByRecursion HasSavedForm lines
      → IsGood place → told_each saved_kind.told place lines ≡ Ok to → IsGood to
  lines_good place to [] forms good order =
      let same : place ≡ to = cc in subst IsGood same good
  lines_good place to (line ∷ lines) forms good order =
      let step = went_on (saved_kind.told place line) (λ p. told_each saved_kind.told p lines) to
      order in
      lines_good step.0 to lines forms.1
      (told_good place step.0 line forms.0 good (some_told (told_saved_line place line) step.1))
      step.2

  -- the state once the last line has come
  end_good : (place : SavedPlace) (state : SavedState) → IsGood place
      → last_state place ≡ Some state → IsWritable state
  end_good (After last) state good is =
      let same : last ≡ state = cc in subst IsWritable same good
  end_good _ state good is = absurd cc

  -- a reading as a state
  reading_good : (bytes : List ℕ) (state : SavedState) (lines : List SavedLine)
      (end : Result SavedState (Fault (Unit {0})))
      → HasGoodLines saved_kind Before bytes lines end
      → Ok state ≡ saved_answer 1 lines end → IsWritable state
  reading_good bytes state lines (Ok last) reads is =
      let same : last ≡ state = cc in
      end_good reads.place state (lines_good Before reads.place lines reads.forms tt reads.order)
      (rw same at reads.ends.1)
  reading_good bytes state lines (Err fault) reads is = absurd cc

  -- the state of the bytes of a saved world
  pub read_writable : (bytes : List ℕ) (state : SavedState) → saved_of bytes ≡ Ok state
      → IsWritable state
  read_writable bytes state is =
      let read = subst (ReadsSaved bytes) is (saved_is_read bytes) in
      reading_good bytes state read.lines read.end read.reads read.answers
