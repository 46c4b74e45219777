-- How a run with a watcher ends, by what the runner and the watcher answered.
use Rattle.std.proofs.Common.{◌≡◌, ℕ, List, Option, Some, IfOk, Result, Ok, Err, subst, sym, ◌∙◌}
use Rattle.std.specs.Prelude.{IsErrAnd, OnOk}
use Rattle.logged_run.proofs.Prelude.{err_from_is_err_and, SinkState, ConfigValues, WorldPicture, WorldValue, SinkStop, Change, GainedText, change, WritesAll, Progress, HasCome, RunsToEnd, WritesLog, StopsRun, EndsRun, EndsWatched, IsAtEnd, RunsWatched, IsFinalWorld, run_text, BeginsAs, Watches, WritesLooks}
use Rattle.avida_port.specs.declared.sink.SinkStop.TheVariants as stop
use Rattle.logged_run.proofs.NewsLemmas.{line_as}
use Rattle.logged_run.proofs.PublishedLemmas.{last_heard}
use Rattle.logged_run.proofs.WatchLemmas.{all_watched, last_stopped, nothing_run, runner_stopped, watcher_stopped}

-- where the runner and the watcher came to their end the run is at its end
pub at_end : (ran : Result Progress SinkStop) (watched : Result (Option ℕ) SinkStop)
    (config : ConfigValues) (published observed : List WorldPicture)
    → OnOk watched (BeginsAs config observed)
    → IfOk ran (HasCome config config.updates published)
    → OnOk watched (IfOk ran (IsAtEnd observed))
at_end ran (Err e) config published observed begins come = tt
at_end (Err e) (Ok newest) config published observed begins come = tt
at_end (Ok progress) (Ok newest) config published observed begins come = record {
  begins = subst (λ (of : ConfigValues). BeginsAs of observed) (sym come.world.config) begins;
  config = come.picture_config ∙ sym come.world.config;
  update = come.picture_update ∙ sym come.world.update;
  heard = last_heard published progress come;
}

-- a run that stopped
run_stopped : {looks : ℕ} {config : ConfigValues} {out watch : Change SinkState} (e : SinkStop)
    → StopsRun (Some looks) config out watch e → RunsWatched looks config out watch (Err e)
run_stopped e stopped = record { world = tt; ok = tt; watched = tt; err = stopped }

-- the log where the runner came to its end
whole : {T : Type 0} {a b : SinkState} {t : T} (config : ConfigValues)
    → WritesLog config a b (Ok t) → GainedText (change a b) (run_text config)
whole {a = a} {b = b} config wrote = subst (GainedText (change a b)) wrote.is wrote.writes.ok

-- the log where the runner stopped
stopped : {T : Type 0} {a b : SinkState} {e : SinkStop} (config : ConfigValues)
    → WritesLog {T = T} config a b (Err e) → WritesAll {T = T} a b (run_text config) (Err e)
stopped {T = T} {a = a} {b = b} {e = e} config wrote =
    subst (λ text. WritesAll {T = T} a b text (Err e)) wrote.is wrote.writes

-- both came to their end
watched_ended : {a b c d f : SinkState} {progress : Progress} {newest : Option ℕ} (looks : ℕ)
    (config : ConfigValues) (result : Result WorldValue SinkStop)
    → GainedText (change a b) (run_text config) → WritesLooks looks config c d (Ok newest)
    → IsFinalWorld config progress.world → EndsWatched progress newest d f result
    → RunsWatched looks config (change a b) (change c f) result
watched_ended {progress = progress} {newest = newest} looks config (Ok world) log lines final ends =
    record {
      world = subst (IsFinalWorld config) (sym ends.world) final;
      ok = log;
      watched = all_watched {U = WorldValue} {u = world} looks config lines
          (line_as newest final.config final.update final.update ends.line);
      err = tt;
    }
watched_ended {progress = progress} {newest = newest} looks config (Err e) log lines final ends =
    run_stopped e (last_stopped {U = WorldValue} looks config log lines
    (line_as newest final.config final.update final.update ends.line))

-- a run ends by how its runner and its watcher ended
pub run_ended : {a b c d f : SinkState} {published observed : List WorldPicture} (looks : ℕ)
    (config : ConfigValues) (ran : Result Progress SinkStop)
    (watched : Result (Option ℕ) SinkStop) (result : Result WorldValue SinkStop)
    → RunsToEnd config published a b ran → Watches looks config observed c d watched
    → EndsRun ran watched d f result
    → RunsWatched looks config (change a b) (change c f) result
run_ended looks config (Err e) watched result run watch ends =
    rw (ends.0, ends.1)
    (run_stopped e (runner_stopped looks config watched (stopped config run.log) watch.lines))
run_ended looks config (Ok progress) (Err e) result run watch ends =
    rw (ends.0, ends.1)
    (run_stopped e (watcher_stopped looks config (whole config run.log) watch.lines))
run_ended looks config (Ok progress) (Ok newest) result run watch ends =
    watched_ended looks config result (whole config run.log) watch.lines run.come.world ends

-- an error that memory ran out stops a run with a watcher before anything was written
pub stopped_early : (looks : ℕ) (config : ConfigValues) (out watch : SinkState)
    (result : Result WorldValue SinkStop) → IsErrAnd result (λ error. error ≡ stop.Memory)
    → RunsWatched looks config (change out out) (change watch watch) result
stopped_early looks config out watch result is =
    let error = err_from_is_err_and result is in
    rw (error.1, error.2) (run_stopped stop.Memory (nothing_run looks config out watch))
