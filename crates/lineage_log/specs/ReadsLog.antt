-- What the bytes of a log are read as (docs/FORMATS.md, "The log"): the lines of a good log, or the
-- fault behind good lines. For example, behind a first line `E 5` and a newline are out of order in
-- line 2, since no update has its end yet, and `E 0` without a newline is a bad line.
use Rattle.std.specs.Prelude.{◌≡◌, ◌+◌, ℕ, List, flat_map, length, Option, Some, None, Result, Ok, Err}
use Rattle.lineage_log.specs.Prelude.{AllByRecursion, Line}
use Rattle.log_lines.specs.LineText.{HasForm, line_text, row_text}
use Rattle.lineage_log.specs.declared.log_stop.LogStop.{LogStop}
use Rattle.lineage_log.specs.declared.log_stop.LogStop.TheVariants as stop
use Rattle.lineage_log.specs.declared.reason.Reason.{Reason}
use Rattle.lineage_log.specs.declared.reason.Reason.TheVariants as reason
use Rattle.lineage_log.specs.NumberedLines.{LineKind, Fault, NoLine, OutOfOrder, Unended, HasGoodLines}
use Rattle.lineage_log.specs.Order.{LogPlace, Before, After, IsWhole, told, told_all}
use Rattle.lineage_log.specs.Reader.{Reader}

-- the text of a list of lines
abbrev pub lines_text : List Line → List ℕ
lines_text lines = flat_map line_text lines

-- each line has a form, their order is good, and the last one is an end
pub record IsGoodLog (lines : List Line) : Type 0 where
  pub forms : AllByRecursion HasForm lines
  pub order : IsWhole (told_all Before lines)

-- the reader, once the last line has come
abbrev pub last_reader : LogPlace → Option Reader
last_reader (After r) = Some r
last_reader _ = None

-- the lines of a log
abbrev pub log_kind : LineKind Line LogPlace Reason Reader
log_kind = record { text = row_text; HasForm = HasForm; told = told; whole_at = last_reader }

-- the answer for a line that is out of order
abbrev pub stop_at : ℕ → Reason → LogStop
stop_at line reason.BadOrder = stop.BadOrder line
stop_at line reason.UnknownParent = stop.UnknownParent line
stop_at line reason.BadChange = stop.BadChange line

-- the answer for a faulty line
abbrev pub log_stop : ℕ → Fault Reason → LogStop
log_stop line NoLine = stop.BadLine line
log_stop line (OutOfOrder reason) = stop_at line reason
log_stop line Unended = stop.Unended line

-- the bytes are read as these lines, or rejected for this
abbrev pub ReadsLog : List ℕ → Result (List Line) LogStop → Type 0
ReadsLog bytes (Ok lines) = (lines_text lines ≡ bytes) × IsGoodLog lines
ReadsLog bytes (Err why) =
    (lines : List Line) × (fault : Fault Reason)
    × HasGoodLines log_kind Before bytes lines (Err fault)
    × (why ≡ log_stop (length lines + 1) fault)
