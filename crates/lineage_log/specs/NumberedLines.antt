-- Lines, each with its newline, as in a log or a saved world (docs/FORMATS.md, "Reading a log" and
-- "Reading a saved world"): with which good lines bytes begin, and how they end behind these, well
-- or before a faulty line, whose number is one more than there are good ones.
use Rattle.std.specs.Prelude.{◌≡◌, ◌≢◌, ℕ, List, [], ◌∷◌, ◌++◌, flat_map, Option, Some, None, Result, Ok, Err}
use Rattle.std.specs.List.{AllByRecursion}
use Prim.Native.Char.{code}

-- a kind of lines: text without newline, ranges, order, and what was told once the last has come
pub record LineKind (Line Place Cause Whole : Type 0) : Type 1 where
  pub text : Line → List ℕ
  pub HasForm : Line → Type 0
  pub told : Place → Line → Result Place Cause
  pub whole_at : Place → Option Whole

-- why the next line is faulty: it has no form, is out of order for this cause, or is missing
pub data Fault (Cause : Type 0) : Type 0 where
  NoLine : Fault Cause
  OutOfOrder : Cause → Fault Cause
  Unended : Fault Cause

-- what follows a line, unless it is faulty
abbrev pub and_on :
    {Place Cause : Type 0} → Result Place Cause → (Place → Result Place Cause)
    → Result Place Cause
and_on (Ok place) next = next place
and_on (Err cause) next = Err cause

-- all lines, up to the first that is faulty
abbrev pub told_each :
    {Line Place Cause : Type 0} → (Place → Line → Result Place Cause) → Place → List Line
    → Result Place Cause
told_each told place [] = Ok place
told_each told place (line ∷ lines) =
    and_on (told place line) (λ next. told_each told next lines)

module _ {Line Place Cause Whole : Type 0} (kind : LineKind Line Place Cause Whole) where
  -- the text of lines, each with its newline
  abbrev pub text_of_lines : List Line → List ℕ
  text_of_lines lines = flat_map (λ line. kind.text line ++ code "\n" ∷ []) lines

  -- the bytes begin with this line, which has a form
  pub record BeginsWith (bytes : List ℕ) (line : Line) : Type 0 where
    pub rest : List ℕ
    pub text : kind.text line ++ code "\n" ∷ rest ≡ bytes
    pub form : kind.HasForm line

  -- behind good lines, which lead to this place, the bytes end and all has been told, or why not
  abbrev pub EndsWith : Place → List ℕ → Result Whole (Fault Cause) → Type 0
  EndsWith place left (Ok whole) = (left ≡ []) × (kind.whole_at place ≡ Some whole)
  EndsWith place left (Err Unended) = (left ≡ []) × (kind.whole_at place ≡ None)
  EndsWith place left (Err NoLine) = (left ≢ []) × ((first : Line) → ¬ BeginsWith left first)
  EndsWith place left (Err (OutOfOrder cause)) =
      (first : Line) × BeginsWith left first × (kind.told place first ≡ Err cause)

  -- the bytes begin with these good lines, told from a place on, and behind them they end so
  pub record HasGoodLines (start : Place) (bytes : List ℕ) (lines : List Line)
      (end : Result Whole (Fault Cause)) : Type 0 where
    pub place : Place
    pub left : List ℕ
    pub text : text_of_lines lines ++ left ≡ bytes
    pub forms : AllByRecursion kind.HasForm lines
    pub order : told_each kind.told start lines ≡ Ok place
    pub ends : EndsWith place left end
