-- What the reader of a log holds and answers, as the definitions see it.
use Rattle.std.specs.Prelude.{◌≡◌, Result, Ok, Err, ⊤, ◌≢◌, ℕ, List, map, Vec, Option, Some, None, IsErr}
use Rattle.lineage_log.specs.Prelude.{Line, line_values, LogLine, Letter, BirthRecord, child_of}
use Rattle.lineage_log.specs.declared.reason.Reason.{Reason}
use Rattle.lineage_log.specs.declared.refusal.Refusal.{Refusal}
use Rattle.lineage_log.specs.declared.refusal.Refusal.TheVariants.{Memory, Faulty}
use Rattle.lineage_log.specs.declared.reader.Reader as code
use Rattle.lineage_log.specs.Reader.{Reader}
use Rattle.lineage_log.specs.Order.{LogPlace}
use Rattle.std.proofs.Common.{Global}
use Rattle.lineage_log.specs.declared.log_stop.LogStop.{LogStop}
use Rattle.lineage_log.specs.declared.log_stop.LogStop.TheVariants as stop
use Rattle.lineage_log.specs.LogGrammar.{stop_at}
use Rattle.lineage_log.specs.declared.reason.Reason.TheVariants.{UnknownParent, BadChange}

-- the state of a reader
abbrev pub reader_of : code.Reader → Reader
reader_of r = record {
  version = r.version;
  due = r.due;
  stage = r.stage;
  standing = r.standing;
  people = r.people;
  newest = r.newest;
  leaving = r.leaving.items;
  births = r.births;
}

-- a line leads to this place, or why it is faulty; running out of memory says nothing of it
abbrev pub Tells :
    {A : Type 0} → (A → LogPlace) → Result A Refusal → Result LogPlace Reason → Type 0
Tells place (Ok a) told = told ≡ Ok (place a)
Tells place (Err Memory) told = ⊤
Tells place (Err (Faulty reason)) told = told ≡ Err reason

-- the values of the lines
abbrev pub lines_of : List LogLine → List Line
lines_of lines = map line_values lines

-- the answer for a line that was not taken
abbrev pub stop_of : ℕ → Refusal → LogStop
stop_of line Memory = stop.Memory
stop_of line (Faulty reason) = stop_at line reason

-- what a reading of lines gave; running out of memory says nothing of it
abbrev pub Gives : Result (Vec LogLine Global) LogStop → Result (List Line) LogStop → Type 0
Gives (Ok lines) read = read ≡ Ok (lines_of lines.items)
Gives (Err e) read = e ≢ stop.Memory → read ≡ Err e

-- the child of a parent's letters, in a form that has letters, or why there is none
abbrev pub MakesChild : {Form : Type 0} → (Form → List Letter) → Result Form Refusal
    → Option (List Letter) → BirthRecord → Type 0
MakesChild letters (Ok child) None birth = ⊥
MakesChild letters (Ok child) (Some parent) birth = child_of parent birth ≡ Ok (letters child)
MakesChild letters (Err Memory) parent birth = ⊤
MakesChild letters (Err (Faulty reason)) None birth = reason ≡ UnknownParent
MakesChild letters (Err (Faulty reason)) (Some parent) birth =
    (reason ≡ BadChange) × IsErr (child_of parent birth)
