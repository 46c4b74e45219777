-- Reading a log line by line, and where its reader stands (docs/FORMATS.md, "The log").
use Rattle.lineage_log.specs.Prelude.{slice_split, Line, line_values, LogLine}
use Rattle.lineage_log.specs.declared.place.LogPlace as code
use Rattle.lineage_log.specs.declared.place.LogPlace.TheVariants as place
use Rattle.lineage_log.specs.Readings.{reader_of}
use Rattle.lineage_log.specs.Order.{LogPlace, Before, Within, After, told, IsWhole}
use Rattle.std.specs.Prelude.{◌≡◌, ◌≢◌, ℕ, ◌+◌, ◌<◌, List, [], length, Option, Some, None, Result, Ok, Err, Bool, true, false, ◌==◌}
use Rattle.lineage_log.specs.declared.log_stop.LogStop.{LogStop}
use Rattle.lineage_log.specs.declared.log_stop.LogStop.TheVariants as stop
use Rattle.lineage_log.specs.declared.log_reader.LogReader.{LogReader}
use Rattle.lineage_log.specs.LogGrammar.{pieces_log, with_line}

-- the place of a reader
abbrev pub place_of : code.LogPlace → LogPlace
place_of place.Before = Before
place_of (place.Within r) = Within (reader_of r)
place_of (place.After r) = After (reader_of r)

-- what the rest of a log gives
abbrev pub left_of : LogReader → Result (List Line) LogStop
left_of reader =
    pieces_log reader.number (place_of reader.place)
    (slice_split (λ b. b == 10) reader.rest.now)

-- nothing of these bytes is read
pub record IsAtStart (bytes : List ℕ) (reader : LogReader) : Type 0 where
  pub rest : reader.rest.now ≡ bytes
  pub number : reader.number ≡ 1
  pub place : place_of reader.place ≡ Before

-- the reader stands behind a line, at the same place
pub record GoesOn (before after : LogReader) (left : List ℕ) : Type 0 where
  pub number : after.number ≡ before.number + 1
  pub place : after.place ≡ before.place
  pub rest : after.rest.now ≡ left

-- one line was read and told, and the others are left
pub record ReadsLine (line : Line) (before after : LogReader) : Type 0 where
  pub left : left_of before ≡ with_line line (left_of after)
  pub told : told (place_of before.place) line ≡ Ok (place_of after.place)
  pub shorter : length after.rest.now < length before.rest.now

-- the log has its end here
pub record IsRead (before after : LogReader) : Type 0 where
  pub left : left_of before ≡ Ok []
  pub place : place_of after.place ≡ place_of before.place
  pub whole : IsWhole (Ok (place_of after.place))

-- what the next line gives: the line, the end, or the fault; running out of memory says nothing
abbrev pub GivesNext : Result (Option LogLine) LogStop → LogReader → LogReader → Type 0
GivesNext (Ok (Some line)) before after = ReadsLine (line_values line) before after
GivesNext (Ok None) before after = IsRead before after
GivesNext (Err e) before after = e ≢ stop.Memory → left_of before ≡ Err e

-- what the next line does: it is told, the end, or the fault; running out of memory says nothing
abbrev pub TellsNext : Result Bool LogStop → LogReader → LogReader → Type 0
TellsNext (Ok true) before after = (line : Line) × ReadsLine line before after
TellsNext (Ok false) before after = IsRead before after
TellsNext (Err e) before after = e ≢ stop.Memory → left_of before ≡ Err e

-- the bytes end here: a whole log ends, or why it doesn't
abbrev pub EndsAt : Result (Unit {0}) LogStop → LogPlace → Result (List Line) LogStop → Type 0
EndsAt (Ok done) place left = (left ≡ Ok []) × IsWhole (Ok place)
EndsAt (Err e) place left = left ≡ Err e
