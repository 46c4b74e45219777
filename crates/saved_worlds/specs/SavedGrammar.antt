-- What bytes are read as, where a saved world is wanted (docs/FORMATS.md, "Saved worlds"): lines
-- with which they begin, and what is left behind these. For example, behind the first line of a
-- world the bytes `Z 1` and a newline have the fault `BadState` in line 2, since nobody stands in
-- it, and the bytes `Z 0` without a newline have the fault `BadLine`.
use Rattle.std.specs.Prelude.{ℕ, ◌+◌, ◌==◌, List, [], Option, None, Some, Result, Ok, Err, ◌≡◌, length}
use Rattle.std.specs.List.{slice_split}
use Rattle.std.specs.Option.{ok_or}
use Rattle.lineage_log.specs.LineWalk.{last_end, pieces_read}
use Rattle.lineage_log.specs.NumberedLines.{LineKind, Fault, NoLine, OutOfOrder, Unended, HasGoodLines}
use Rattle.saved_lines.specs.SavedReading.{saved_line_of}
use Rattle.saved_lines.specs.SavedText.{SavedLine, saved_row_text}
pub use Rattle.saved_worlds.specs.SavedOrder.{Placed, SavedPlace, Before, Among, Halfway, After, is_above, is_new, is_young, may_stand, are_within, may_follow, placed_of, with_placed, state_of_lines, told_saved_line}
use Rattle.saved_worlds.specs.SavedState.{SavedState}
use Rattle.saved_worlds.specs.declared.saved_stop.SavedStop.{SavedStop}
use Rattle.saved_worlds.specs.declared.saved_stop.SavedStop.TheVariants as stop
use Rattle.saved_lines.specs.SavedForms.{HasSavedForm}

-- the state, once the last line has come
abbrev pub last_state : SavedPlace → Option SavedState
last_state (After state) = Some state
last_state _ = None

-- the lines of a saved world; one that doesn't fit has no further cause
abbrev pub saved_kind : LineKind SavedLine SavedPlace (Unit {0}) SavedState
saved_kind = record {
  text = saved_row_text;
  HasForm = HasSavedForm;
  told = λ place line. ok_or (told_saved_line place line) tt;
  whole_at = last_state;
}

-- the answer for a faulty line
abbrev pub saved_stop : ℕ → Fault (Unit {0}) → SavedStop
saved_stop line NoLine = stop.BadLine line
saved_stop line (OutOfOrder cause) = stop.BadState line
saved_stop line Unended = stop.Unended line

-- the answer for good lines, the first of which has this number, and for how it ends behind them
abbrev pub saved_answer :
    ℕ → List SavedLine → Result SavedState (Fault (Unit {0})) → Result SavedState SavedStop
saved_answer number lines (Ok state) = Ok state
saved_answer number lines (Err fault) = Err (saved_stop (length lines + number) fault)

-- bytes read as this state, or rejected: good lines with which they begin, and how it ends
pub record ReadsSaved (bytes : List ℕ) (answer : Result SavedState SavedStop) : Type 0 where
  pub lines : List SavedLine
  pub end : Result SavedState (Fault (Unit {0}))
  pub reads : HasGoodLines saved_kind Before bytes lines end
  pub answers : answer ≡ saved_answer 1 lines end

-- the last piece, which has no newline
abbrev pub last_saved_piece : ℕ → SavedPlace → List ℕ → Result SavedState SavedStop
last_saved_piece number place piece = saved_answer number [] (last_end saved_kind place piece)

-- the state of the pieces, each but the last a line
abbrev pub pieces_state : ℕ → SavedPlace → List (List ℕ) → Result SavedState SavedStop
pieces_state number place pieces =
    let read = pieces_read saved_kind saved_line_of place pieces in
    saved_answer number read.lines read.end

-- the state with this text, or the first faulty line, from 1; `Memory` is never the answer
unfoldable pub saved_of : List ℕ → Result SavedState SavedStop
saved_of bytes = pieces_state 1 Before (slice_split (λ b. b == 10) bytes)
