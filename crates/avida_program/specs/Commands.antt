-- What a call of the program reads, writes and leaves, by how it ends (docs/FORMATS.md, "The
-- command line" and "Statuses and fault lines"). The number of workers changes nothing.
use Rattle.std.specs.Prelude.{◌≡◌, ◌≢◌, ◌⊎◌, Bool, true, false, ℕ, List, [], Option, None, Some, IfSome, Result, Ok, Err, OnOk, OnErr}
use Rattle.avida_program.specs.Prelude.{assay_text, landscape_text, tree_text, continued_text, ConfigValues, WorldValue, Change, Stays, SinkFailed, GainedText, GainedFront, SinkState, run_text}
use Rattle.logged_run.specs.WatchedRun.{PutFailed}
use Rattle.logged_run.specs.Watching.{GainedPictures, GainedPicturesFront}
use Rattle.command_line.specs.CommandLine.{looks_of, spelling_of}
use Rattle.command_line.specs.declared.command.Command.{Command}
use Rattle.command_line.specs.declared.command.Command.TheVariants.{Trace, Run, Lineage, Bench, Assay, Save, Resume, Advance, Replay, Upgrade, Tree, Landscape}
use Rattle.command_line.specs.declared.command.Spelling.TheVariants.{Letters}
use Rattle.avida_program.specs.declared.call_error.CallError.TheVariants as error
use Rattle.avida_program.specs.declared.refusal.Refusal.{Refusal}
use Rattle.avida_program.specs.declared.status.Status.{Status}
use Rattle.avida_program.specs.Output.{bench_config, bench_text, path_text, replay_text, upgrade_text, advanced_text, save_text, GainedLogOf, LeavesFinal}
use Rattle.avida_program.specs.Endings.{OnBytes, SourceFailed, TellsOf, Work, WritesText}
use Rattle.avida_program.specs.Input.{GivenBy, IsInputWith, ReadsLines, ReadsState, assay_input_of, configuration_of, genome_of_input, lineage_input_of}
use Rattle.avida_program.specs.Status.{Ended, status_of}
use Rattle.avida_program.specs.TraceText.{trace_text}

-- the text of an input is written whole, or a prefix where a put fails or memory runs out, or none
abbrev pub ReadsInput : {A : Type 0} →
    Option ℕ → (Result A Refusal → Type 0) → (A → List ℕ) → Work → Ended → Type 0
ReadsInput looks reading text work (Ok done) = (work.source.after.left ≡ Some [])
    × IsInputWith reading (λ input. GainedText work.out (text input))
ReadsInput looks reading text work (Err error.BadWords) = ⊥
ReadsInput looks reading text work (Err (error.BadInput why)) = Stays work.out × reading (Err why)
ReadsInput looks reading text work (Err error.ReadFault) = Stays work.out × SourceFailed work.source
ReadsInput looks reading text work (Err error.WriteFault) = PutFailed looks work.out work.watch
    × IsInputWith reading (λ input. GainedFront work.out (text input))
ReadsInput looks reading text work (Err error.Memory) =
    Stays work.out ⊎ IsInputWith reading (λ input. GainedFront work.out (text input))

-- a command that reads its input so, and writes this text of it
abbrev pub Reads : {A : Type 0} →
    (List ℕ → Result A Refusal → Type 0) → (A → List ℕ) → Work → Ended → Type 0
Reads reading text_of work ended =
    OnBytes work.source (λ bytes. ReadsInput None (reading bytes) text_of work ended)

-- where a put failed, a watcher of so many looks has written pictures or a prefix of their lines,
-- and the log is whole unless a put to `out` failed
pub record StopsWatched (looks : ℕ) (work : Work) (config : ConfigValues) : Type 0 where
  pub pictures : GainedPicturesFront looks config work.watch
  pub whole_log : ¬ SinkFailed work.out → GainedText work.out (run_text config)

-- what the watcher of a run has written, where the configuration is read so, and nothing otherwise
abbrev pub Watches : ℕ → (Result ConfigValues Refusal → Type 0) → Work → Ended → Type 0
Watches looks reading work (Ok done) =
    IsInputWith reading (λ config. GainedPictures looks config work.watch)
Watches looks reading work (Err error.WriteFault) = IsInputWith reading (StopsWatched looks work)
Watches looks reading work (Err error.Memory) = Stays work.watch
    ⊎ IsInputWith reading (λ config. GainedPicturesFront looks config work.watch)
Watches looks reading work _ = Stays work.watch

-- `run`, perhaps with a watcher
pub record Runs (looks : Option ℕ) (work : Work) (ended : Ended) : Type 0 where
  pub reads : OnBytes work.source (λ bytes.
      ReadsInput looks (GivenBy configuration_of bytes) run_text work ended)
  pub watches : OnBytes work.source (λ bytes.
      IfSome looks (λ n. Watches n (GivenBy configuration_of bytes) work ended))
  -- Done: the world after the last update is left
  pub last_world : OnOk ended (OnBytes work.source (λ bytes.
      IsInputWith (GivenBy configuration_of bytes) (LeavesFinal work.last)))
  -- Done: what `out` gained is a log that replays to who lives in the world that is left
  pub replays : OnOk ended ((world : WorldValue) → work.last.after ≡ Some world
      → GainedLogOf work.out world)

-- `lineage` of a cell
pub record Descends (cell : ℕ) (work : Work) (ended : Ended) : Type 0 where
  -- a cell that is not in the world is refused
  pub reads : Reads (GivenBy (lineage_input_of cell)) (λ config. path_text config cell) work ended
  -- Done: the world after the last update is left
  pub last_world : OnOk ended (OnBytes work.source (λ bytes.
      IsInputWith (GivenBy (lineage_input_of cell) bytes) (LeavesFinal work.last)))

-- `bench` of a seed, which reads nothing
pub record Benches (seed : ℕ) (work : Work) (ended : Ended) : Type 0 where
  pub source_stays : Stays work.source
  pub writes : WritesText (bench_text seed) work.out ended
  -- Done: the world after the last update is left
  pub last_world : OnOk ended (LeavesFinal work.last (bench_config seed))

-- what each command reads, writes and leaves
abbrev pub Does : Command → Work → Ended → Type 0
Does (Trace trace) work ended = Reads (GivenBy (genome_of_input (spelling_of trace.org)))
    (λ genome. trace_text genome trace.inputs trace.steps) work ended
Does (Run run) work ended = Runs run.watch work ended
Does (Lineage lineage) work ended = Descends lineage.cell work ended
Does (Bench bench) work ended = Benches bench.seed work ended
Does (Assay assay) work ended = Reads (GivenBy (assay_input_of assay.count))
    (λ config. assay_text config assay.first assay.count) work ended
Does (Save workers) work ended = Reads (GivenBy configuration_of) save_text work ended
Does (Resume resume) work ended = Reads (ReadsState resume.more)
    (λ state. continued_text state resume.more) work ended
Does (Advance advance) work ended = Reads (ReadsState advance.more)
    (λ state. advanced_text state advance.more) work ended
Does Replay work ended = Reads ReadsLines replay_text work ended
Does Upgrade work ended = Reads ReadsLines upgrade_text work ended
Does Tree work ended = Reads ReadsLines tree_text work ended
Does (Landscape steps) work ended =
    Reads (GivenBy (genome_of_input Letters)) (λ genome. landscape_text genome steps) work ended

-- a command that leaves the last world of a run
abbrev pub leaves_world : Command → Bool
leaves_world (Run run) = true
leaves_world (Lineage lineage) = true
leaves_world (Bench bench) = true
leaves_world _ = false

-- a command is carried out, and ends so
pub record CarriesOut (command : Command) (work : Work) (ended : Ended) : Type 0 where
  -- the words are good, and each fault has its cause, whatever the streams tell
  pub words : ended ≢ Err error.BadWords
  pub read_fault : ended ≡ Err error.ReadFault → SourceFailed work.source
  pub write_fault : ended ≡ Err error.WriteFault → PutFailed (looks_of command) work.out work.watch
  -- what stays: the watch without a watcher, and the last world unless a finished command leaves one
  pub watch_stays : looks_of command ≡ None → Stays work.watch
  pub last_stays : OnErr ended (Stays work.last)
  pub no_world : leaves_world command ≡ false → Stays work.last
  -- what the command itself does
  pub does : Does command work ended

-- words that give no command are refused, unless memory runs out; nothing is read, written or left
pub record DoesNothing (work : Work) (ended : Ended) : Type 0 where
  pub refused : (ended ≡ Err error.BadWords) ⊎ (ended ≡ Err error.Memory)
  pub source_stays : Stays work.source
  pub out_stays : Stays work.out
  pub watch_stays : Stays work.watch
  pub last_stays : Stays work.last

-- what the words give is carried out, and ends so
abbrev pub Obeys : Option Command → Work → Ended → Type 0
Obeys None work ended = DoesNothing work ended
Obeys (Some command) work ended = CarriesOut command work ended

-- a call ends with this status: what it did, by how it ended, and the line on `err` that tells so
pub record Serves (command : Option Command) (work : Work) (err : Change SinkState) (s : Status)
    : Type 0 where
  pub ended : Ended
  pub status_is : s ≡ status_of ended
  pub obeys : Obeys command work ended
  pub tells : TellsOf err ended
