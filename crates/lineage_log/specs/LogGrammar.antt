-- What a reader answers for the bytes of a log: its lines, or the first faulty one (docs/FORMATS.md,
-- "The log"). ReadsLog says the same without the way of the reading.
use Rattle.std.specs.Prelude.{◌≡◌, ℕ, ◌+◌, List, [], ◌∷◌, length, Result, Ok, Err, ◌==◌}
use Rattle.lineage_log.specs.Prelude.{slice_split, Line, Start, line_of}
use Rattle.lineage_log.specs.declared.log_stop.LogStop.{LogStop}
use Rattle.lineage_log.specs.declared.reason.Reason.{Reason}
use Rattle.lineage_log.specs.LineWalk.{last_end, pieces_read}
use Rattle.lineage_log.specs.NumberedLines.{Fault}
use Rattle.lineage_log.specs.Order.{LogPlace, Before}
use Rattle.lineage_log.specs.Reader.{Reader}
pub use Rattle.lineage_log.specs.ReadsLog.{lines_text, stop_at, IsGoodLog, log_kind, log_stop}

-- the answer for good lines, the first of which has this number, and for how it ends behind them
abbrev pub log_answer :
    ℕ → List Line → Result Reader (Fault Reason) → Result (List Line) LogStop
log_answer number lines (Ok reader) = Ok lines
log_answer number lines (Err fault) = Err (log_stop (length lines + number) fault)

-- the last piece, which has no newline
abbrev pub last_piece : ℕ → LogPlace → List ℕ → Result (List Line) LogStop
last_piece number place piece = log_answer number [] (last_end log_kind place piece)

-- the lines of the pieces, each but the last a line
abbrev pub pieces_log : ℕ → LogPlace → List (List ℕ) → Result (List Line) LogStop
pieces_log number place pieces =
    let read = pieces_read log_kind line_of place pieces in log_answer number read.lines read.end

-- the lines of a log, or the first faulty one, numbered from 1; `Memory` is never the answer
unfoldable pub log_of : List ℕ → Result (List Line) LogStop
log_of bytes = pieces_log 1 Before (slice_split (λ b. b == 10) bytes)

-- the bytes are read as this list
abbrev pub Reads : List ℕ → List Line → Type 0
Reads bytes lines = log_of bytes ≡ Ok lines

-- the line before those that are read
abbrev pub with_line : Line → Result (List Line) LogStop → Result (List Line) LogStop
with_line line (Ok lines) = Ok (line ∷ lines)
with_line line (Err e) = Err e

-- a first line with version 2
abbrev pub newer : Line → Line
newer (Start version width height cell genome) = Start 2 width height cell genome
newer line = line

-- the list with version 2 in its first line
abbrev pub upgraded : List Line → List Line
upgraded [] = []
upgraded (line ∷ lines) = newer line ∷ lines
