-- A run whose configuration was read, by how it ended.
use Rattle.std.proofs.Common.{◌≡◌, ◌∙◌, ℕ, List, Option, None, Some, IfSome, Result, Ok, Err, OnErr, OnOk, refl, sym, ap, inl, inr}
use Rattle.avida_program.proofs.Prelude.{false≢true, Line, ReadsLog, ConfigValues, SinkState, WorldValue, world_in, ReplaysToLiving, residents_of_world, world_after, Lineage, Run, CallError, Refusal, SinkStop, Change, GainedText, Stays, OnBytes, Work, GivesInput, GivesNoInput, ReadsAndWrites, error_at, GivenBy, IsInputWith, configuration_of, lineage_input_of, StopsRun, IsFinalWorld, run_text, GainedLogOf, LeavesFinal, path_text, Ended, CarriesOut, Watches}
use Rattle.lineage_log.specs.LogGrammar.{Reads}
use Rattle.command_line.specs.declared.command.Command.TheVariants as command
use Rattle.avida_program.specs.declared.call_error.CallError.TheVariants as error
use Rattle.avida_port.specs.declared.sink.SinkStop.TheVariants as stop
use Rattle.logged_run.specs.Watching.{GainedPictures}
use Rattle.avida_program.proofs.ReadEnds.{carried, nothing_caused, nothing_read, reads_and_writes}

-- the world after the last update, by its value
final_is : (config : ConfigValues) (final world : WorldValue) → IsFinalWorld config final
    → final ≡ world → world_after config config.updates ≡ world_in world
final_is config final world is same =
    sym (ap (world_after config) is.update)
    ∙ sym (ap (λ (c : ConfigValues). world_after c final.update) is.config)
    ∙ ap world_in same

-- what holds for each number of looks holds for those of a watcher
where_watched : (looks : Option ℕ) (P : ℕ → Type 0) → ((n : ℕ) → P n) → IfSome looks P
where_watched None P h = tt
where_watched (Some n) P h = h n

-- what the watcher of a run that came to its end leaves
watched : (looks : Option ℕ) (bytes : List ℕ) (work : Work) (config : ConfigValues)
    → configuration_of bytes ≡ Ok config
    → IfSome looks (λ n. GainedPictures n config work.watch)
    → IfSome looks (λ n. Watches n (GivenBy configuration_of bytes) work (Ok tt))
watched None bytes work config is h = h
watched (Some n) bytes work config is h = (config, is, h)

-- what the watcher leaves where a put failed
watch_faulted : (looks : Option ℕ) (bytes : List ℕ) (work : Work) (config : ConfigValues)
    → configuration_of bytes ≡ Ok config
    → StopsRun looks config work.out work.watch stop.Fault
    → IfSome looks (λ n. Watches n (GivenBy configuration_of bytes) work (Err error.WriteFault))
watch_faulted None bytes work config is stops = tt
watch_faulted (Some n) bytes work config is stops =
    (config, is, record { pictures = stops.pictures; whole_log = stops.whole_log refl })

-- what the watcher leaves where memory ran out
watch_wanted : (looks : Option ℕ) (bytes : List ℕ) (work : Work) (config : ConfigValues)
    → configuration_of bytes ≡ Ok config
    → StopsRun looks config work.out work.watch stop.Memory
    → IfSome looks (λ n. Watches n (GivenBy configuration_of bytes) work (Err error.Memory))
watch_wanted None bytes work config is stops = tt
watch_wanted (Some n) bytes work config is stops = inr (config, is, stops.pictures)

-- of no configuration no picture is written
nothing_shown : (looks : ℕ) (reading : Result ConfigValues Refusal → Type 0) (work : Work)
    (e : CallError)
    → GivesNoInput configuration_of work.source e → Stays work.watch
    → Watches looks reading work (Err e)
nothing_shown looks reading work error.BadWords h stays = stays
nothing_shown looks reading work (error.BadInput why) h stays = stays
nothing_shown looks reading work error.ReadFault h stays = stays
nothing_shown looks reading work error.WriteFault h stays = absurd h
nothing_shown looks reading work error.Memory h stays = inl stays

-- the configuration of a run was not read
pub run_not_read : (asked : Run) (work : Work) (e : CallError)
    → GivesNoInput configuration_of work.source e → Stays work.out → Stays work.watch
    → Stays work.last → CarriesOut (command.Run asked) work (Err e)
run_not_read asked work e h out watch last =
    carried _ work (Err e) (nothing_caused configuration_of (command.Run asked) work e h)
    (λ is. watch) last (λ is. last) (record {
      reads = nothing_read configuration_of run_text asked.watch work e h out;
      watches = λ bytes told. where_watched asked.watch _
          (λ n. nothing_shown n (GivenBy configuration_of bytes) work e h watch);
      last_world = tt;
      replays = tt;
    })

-- the log of a run that came to its end replays to who lives in the world that it left
gained_log : (out : Change SinkState) (config : ConfigValues) (final world : WorldValue)
    → GainedText out (run_text config) → ReplaysToLiving config config.updates
    → ((bytes : List ℕ) (lines : List Line) → Reads bytes lines → ReadsLog bytes (Ok lines))
    → IsFinalWorld config final → final ≡ world → GainedLogOf out world
gained_log out config final world gained log exactly is same = record {
  text = run_text config;
  gained = gained;
  lines = log.lines;
  reads = exactly (run_text config) log.lines log.good;
  replays = log.replays ∙ ap residents_of_world (final_is config final world is same);
}

-- the run came to its end
pub ran_to_end : (asked : Run) (work : Work) (config : ConfigValues)
    → GivesInput configuration_of work.source config → GainedText work.out (run_text config)
    → IfSome asked.watch (λ n. GainedPictures n config work.watch)
    → (asked.watch ≡ None → Stays work.watch)
    → LeavesFinal work.last config → ReplaysToLiving config config.updates
    → ((bytes : List ℕ) (lines : List Line) → Reads bytes lines → ReadsLog bytes (Ok lines))
    → CarriesOut (command.Run asked) work (Ok tt)
ran_to_end asked work config read wrote pictures unwatched left replays exactly =
    carried _ work (Ok tt) tt unwatched tt (λ e. absurd (false≢true (sym e))) (record {
      reads = λ bytes is. (read.whole bytes is, (config, read.reads bytes is, wrote));
      watches = λ bytes is. watched asked.watch bytes work config (read.reads bytes is) pictures;
      last_world = λ bytes is. (config, read.reads bytes is, left);
      replays = λ world is.
          gained_log work.out config left.0 world wrote replays exactly left.2 (cc (left.1, is));
    })

-- the run stopped
pub run_stopped : (asked : Run) (work : Work) (config : ConfigValues)
    (e : SinkStop) → GivesInput configuration_of work.source config
    → StopsRun asked.watch config work.out work.watch e → (asked.watch ≡ None → Stays work.watch)
    → Stays work.last → CarriesOut (command.Run asked) work (Err (error_at e))
run_stopped asked work config stop.Fault read stops unwatched kept =
    carried _ work (Err error.WriteFault) (stops.fault refl) unwatched kept (λ e. kept) (record {
      reads = λ bytes is. (stops.fault refl, (config, read.reads bytes is, stops.front));
      watches = λ bytes is.
          watch_faulted asked.watch bytes work config (read.reads bytes is) stops;
      last_world = tt;
      replays = tt;
    })
run_stopped asked work config stop.Memory read stops unwatched kept =
    carried _ work (Err error.Memory) tt unwatched kept (λ e. kept) (record {
      reads = λ bytes is. inr (config, read.reads bytes is, stops.front);
      watches = λ bytes is. watch_wanted asked.watch bytes work config (read.reads bytes is) stops;
      last_world = tt;
      replays = tt;
    })

-- the line of descent in a run's last world
pub descended : (asked : Lineage) (work : Work) (ended : Ended)
    → ReadsAndWrites (lineage_input_of asked.cell) (λ config. path_text config asked.cell)
    work.source work.out ended
    → Stays work.watch → OnErr ended (Stays work.last)
    → OnOk ended (OnBytes work.source (λ bytes.
    IsInputWith (GivenBy (lineage_input_of asked.cell) bytes) (LeavesFinal work.last)))
    → CarriesOut (command.Lineage asked) work ended
descended asked work ended so watch last left =
    let does = reads_and_writes (lineage_input_of asked.cell)
    (λ config. path_text config asked.cell) (command.Lineage asked) refl work ended so in
    carried _ work ended does.0 (λ is. watch) last (λ e. absurd (false≢true (sym e)))
    (record { reads = does.1; last_world = left })
