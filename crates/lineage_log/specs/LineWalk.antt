-- What NumberedLines says of bytes, as a function that reads them line by line.
use Rattle.std.specs.Prelude.{ℕ, List, [], ◌∷◌, Option, Some, None, Result, Ok, Err}
use Rattle.std.specs.Option.{ok_or}
use Rattle.lineage_log.specs.NumberedLines.{LineKind, Fault, NoLine, OutOfOrder, Unended}

-- the good lines, and how it ends behind them
pub record LinesRead (Line Whole Cause : Type 0) : Type 0 where
  pub lines : List Line
  pub end : Result Whole (Fault Cause)

-- no line is read, and it ends so
abbrev pub ended :
    {Line Whole Cause : Type 0} → Result Whole (Fault Cause) → LinesRead Line Whole Cause
ended end = record { lines = []; end = end }

-- a line that was told, and the others
abbrev pub after_told :
    {Line Place Cause Whole : Type 0} → Line → Result Place Cause
    → (Place → LinesRead Line Whole Cause) → LinesRead Line Whole Cause
after_told line (Ok next) others =
    record { lines = line ∷ (others next).lines; end = (others next).end }
after_told line (Err cause) others = ended (Err (OutOfOrder cause))

module _ {Line Place Cause Whole : Type 0} (kind : LineKind Line Place Cause Whole) where
  -- the last piece, which has no newline
  abbrev pub last_end : Place → List ℕ → Result Whole (Fault Cause)
  last_end place (b ∷ bs) = Err NoLine
  last_end place [] = ok_or (kind.whole_at place) Unended

  -- a piece with its line or none, and the others
  abbrev pub one_piece :
      Place → Option Line → (Place → LinesRead Line Whole Cause) → LinesRead Line Whole Cause
  one_piece place None others = ended (Err NoLine)
  one_piece place (Some line) others = after_told line (kind.told place line) others

  -- the pieces between newlines, each but the last a line
  abbrev pub pieces_read :
      (List ℕ → Option Line) → Place → List (List ℕ) → LinesRead Line Whole Cause
  pieces_read line_of place [] = ended (Err Unended)
  pieces_read line_of place (piece ∷ []) = ended (last_end place piece)
  pieces_read line_of place (piece ∷ next ∷ pieces) =
      one_piece place (line_of piece) (λ p. pieces_read line_of p (next ∷ pieces))
