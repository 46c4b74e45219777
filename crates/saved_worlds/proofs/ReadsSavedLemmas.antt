-- The bytes of a saved world are read as what `saved_of` answers, and as nothing else.
use Rattle.std.proofs.Common.{◌≡◌, ℕ, ◌+◌, ◌<◌, List, ◌∷◌, ◌++◌, length, Some, None, Result, Ok, Err, refl, arith, zero-add}
use Rattle.saved_worlds.proofs.Prelude.{AllByRecursion, split_first, saved_line_of, SavedLine, SavedState, SavedPlace, Before, pieces_state, saved_of, told_saved_line, ReadsSaved, saved_answer, saved_kind}
use Rattle.lineage_log.specs.NumberedLines.{Fault}
use Rattle.saved_lines.proofs.SavedLineLaws.{line_again, line_plain, line_takes, numbers_spell}
use Rattle.saved_worlds.specs.declared.saved_stop.SavedStop.{SavedStop}
use Rattle.saved_worlds.specs.declared.saved_stop.SavedStop.TheVariants as stop
use Rattle.lineage_log.proofs.LineWalkLaws.{IsSpelled, cut, more_pieces, reads_once, walk_reads}

-- a line of a saved world has one spelling
saved_spelled : IsSpelled saved_kind saved_line_of
saved_spelled = record {
  again = line_again numbers_spell;
  takes = line_takes numbers_spell;
  one_line = line_plain numbers_spell;
}

-- what the function answers is a reading of the bytes
pub saved_is_read : (bytes : List ℕ) → ReadsSaved bytes (saved_of bytes)
unfolding saved_of
saved_is_read bytes = record {
  lines = _;
  end = _;
  reads = walk_reads saved_kind saved_line_of saved_spelled Before bytes;
  answers = refl;
}

-- a reading of the bytes is what the function answers
pub reads_one_saved : (bytes : List ℕ) (answer : Result SavedState SavedStop)
    → ReadsSaved bytes answer → saved_of bytes ≡ answer
unfolding saved_of
reads_one_saved bytes answer is =
    rw (
      reads_once saved_kind saved_line_of saved_spelled Before bytes is.lines is.end is.reads,
      is.answers,
    ) refl

-- a line before others has the number before theirs
line_counted : (number : ℕ) (line : SavedLine) (lines : List SavedLine)
    (end : Result SavedState (Fault (Unit {0})))
    → saved_answer number (line ∷ lines) end ≡ saved_answer (number + 1) lines end
line_counted number line lines (Ok state) = refl
line_counted number line lines (Err fault) =
    let count : length (line ∷ lines) + number ≡ length lines + (number + 1) = omega arith in
    rw count refl

module _ (number : ℕ) (place : SavedPlace) (piece rest : List ℕ) where
  -- a piece that is no line
  pub piece_none : saved_line_of piece ≡ None
      → pieces_state number place (piece ∷ cut rest) ≡ Err (stop.BadLine number)
  piece_none none =
      rw (more_pieces saved_kind saved_line_of place piece rest, none, zero-add number) refl

  module _ (line : SavedLine) (is : saved_line_of piece ≡ Some line) where
    -- a line that doesn't fit
    pub piece_bad : told_saved_line place line ≡ None
        → pieces_state number place (piece ∷ cut rest) ≡ Err (stop.BadState number)
    piece_bad bad =
        rw (more_pieces saved_kind saved_line_of place piece rest, is, bad, zero-add number) refl

    -- a line that fits
    pub piece_on : (next : SavedPlace) → told_saved_line place line ≡ Some next
        → pieces_state number place (piece ∷ cut rest) ≡ pieces_state (number + 1) next (cut rest)
    piece_on next fits =
        rw (more_pieces saved_kind saved_line_of place piece rest, is, fits)
        (line_counted number line _ _)

-- a line that is read and fits
pub line_on : (number : ℕ) (place next : SavedPlace) (text rest : List ℕ) (line : SavedLine)
    → AllByRecursion (λ b. 10 < b) text → saved_line_of text ≡ Some line
    → told_saved_line place line ≡ Some next
    → pieces_state number place (cut (text ++ 10 ∷ rest))
    ≡ pieces_state (number + 1) next (cut rest)
line_on number place next text rest line plain is fits =
    rw (split_first 10 text rest plain) (piece_on number place text rest line is next fits)
