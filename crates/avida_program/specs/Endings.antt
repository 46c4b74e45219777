-- How reading and writing below `serve` end, and what a call of the program changes
-- (docs/FORMATS.md, "Statuses and fault lines").
use Rattle.std.specs.Prelude.{◌≡◌, ◌⊎◌, ℕ, List, Option, Some, Ok, Err, ◌<◌, ⊤, [], length, Result, IsErrAnd}
use Rattle.avida_program.specs.Prelude.{Rose, SourceState, SinkState, WorldValue, Change, GainedFront, GainedText, SinkFailed, Stays}
use Rattle.avida_program.specs.declared.call_error.CallError.{CallError}
use Rattle.avida_program.specs.declared.call_error.CallError.TheVariants as error
use Rattle.avida_program.specs.Status.{Ended, fault_line}
use Rattle.avida_program.specs.declared.refusal.Refusal.{Refusal}
use Rattle.avida_program.specs.declared.refusal.Refusal.TheVariants.{TooLong}
use Rattle.avida_port.specs.declared.sink.SinkStop.{SinkStop}
use Rattle.avida_port.specs.declared.sink.SinkStop.TheVariants.{Fault, Memory}

-- what a call of the program finds and leaves, but for its fault line
pub record Work : Type 0 where
  pub source : Change SourceState
  pub out : Change SinkState
  pub watch : Change SinkState
  pub last : Change (Option WorldValue)

-- this holds of the bytes of the source, where it tells them
abbrev pub OnBytes : Change SourceState → (List ℕ → Type 0) → Type 0
OnBytes source P = (bytes : List ℕ) → source.before.left ≡ Some bytes → P bytes

-- the faults of a source rose
abbrev pub SourceFailed : Change SourceState → Type 0
SourceFailed source = Rose source.before.faults source.after.faults

-- a text is written whole, or a prefix where a put fails or memory runs out; nothing else ends it
abbrev pub WritesText : List ℕ → Change SinkState → Ended → Type 0
WritesText text out (Ok done) = GainedText out text
WritesText text out (Err error.WriteFault) = SinkFailed out × GainedFront out text
WritesText text out (Err error.Memory) = GainedFront out text
WritesText text out _ = ⊥

-- the fault line of an error on `err`
pub record TellsFault (err : Change SinkState) (e : CallError) : Type 0 where
  -- the line, or a prefix of it
  pub front : GainedFront err (fault_line e)
  -- and the whole line where no put to `err` has failed or run out of memory
  pub whole : ¬ (SinkFailed err ⊎ Rose err.before.wants err.after.wants)
      → GainedText err (fault_line e)

-- `err` tells how a call ended: nothing where all is done, and else the fault line
abbrev pub TellsOf : Change SinkState → Ended → Type 0
TellsOf err (Ok done) = Stays err
TellsOf err (Err e) = TellsFault err e

-- why a call isn't done whose text is not written whole
abbrev pub error_at : SinkStop → CallError
error_at Fault = error.WriteFault
error_at Memory = error.Memory

-- how a call ends whose text is written so
abbrev pub ended_by : {T : Type 0} → Result T SinkStop → Ended
ended_by (Ok done) = Ok tt
ended_by (Err stop) = Err (error_at stop)

-- how the reading of bytes stops, of which there may be so many
abbrev pub StopsReading : ℕ → Change SourceState → CallError → Type 0
StopsReading limit source error.BadWords = ⊥
StopsReading limit source (error.BadInput why) =
    (why ≡ TooLong) × ((bytes : List ℕ) → source.before.left ≡ Some bytes → limit < length bytes)
StopsReading limit source error.ReadFault = SourceFailed source
StopsReading limit source error.WriteFault = ⊥
StopsReading limit source error.Memory = ⊤

-- a source is read to its end, and its bytes are this input
pub record GivesInput {A : Type 0} (input_of : List ℕ → Result A Refusal)
    (source : Change SourceState) (input : A) : Type 0 where
  pub reads : OnBytes source (λ bytes. input_of bytes ≡ Ok input)
  pub whole : OnBytes source (λ bytes. source.after.left ≡ Some [])

-- how a source gives no input: its bytes are refused, a read fails, or memory runs out
abbrev pub GivesNoInput : {A : Type 0}
    → (List ℕ → Result A Refusal) → Change SourceState → CallError → Type 0
GivesNoInput input_of source error.BadWords = ⊥
GivesNoInput input_of source (error.BadInput why) =
    OnBytes source (λ bytes. input_of bytes ≡ Err why)
GivesNoInput input_of source error.ReadFault = SourceFailed source
GivesNoInput input_of source error.WriteFault = ⊥
GivesNoInput input_of source error.Memory = ⊤

-- how a call ends that reads an input and writes a text of it
pub record ReadsAndWrites {A : Type 0} (input_of : List ℕ → Result A Refusal) (text_of : A → List ℕ)
    (source : Change SourceState) (out : Change SinkState) (ended : Ended) : Type 0 where
  -- there is no input, and nothing is written; or the text is written, perhaps not to its end
  pub by_input : (Stays out × IsErrAnd ended (GivesNoInput input_of source))
      ⊎ ((input : A) × GivesInput input_of source input × WritesText (text_of input) out ended)
