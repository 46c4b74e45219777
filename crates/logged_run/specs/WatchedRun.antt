-- How a run with a watcher ends, and how the writing of one stops (docs/ARCHITECTURE.md, "Pictures
-- and observers"; docs/FORMATS.md, "Statuses and fault lines").
use Rattle.std.specs.Prelude.{◌≡◌, ◌⊎◌, ℕ, Option, None, Some, IfSome, List, Result, Ok, Err, IfErr, IfOk, OnOk}
use Rattle.logged_run.specs.Prelude.{SinkState, ConfigValues, SinkStop, Change, GainedFront, GainedText, SinkFailed, values_of, WorldPicture, WorldValue, WritesAll}
use Rattle.avida_port.specs.declared.sink.SinkStop.TheVariants.{Fault}
use Rattle.logged_run.specs.RunText.{run_text, IsFinalWorld}
use Rattle.logged_run.specs.Watching.{GainedPicturesFront, GainedPictures, pictures_text, BeginsAs, IsHeard, news}
use Rattle.logged_run.specs.declared.publishing.Progress.{Progress}

-- the faults of `out` rose, or, where there is a watcher of so many looks, those of `watch`
abbrev pub PutFailed : Option ℕ → Change SinkState → Change SinkState → Type 0
PutFailed None out watch = SinkFailed out
PutFailed (Some looks) out watch = SinkFailed out ⊎ SinkFailed watch

-- how the writing of a run stops, which may have a watcher
pub record StopsRun (looks : Option ℕ) (config : ConfigValues) (out watch : Change SinkState)
    (stop : SinkStop) : Type 0 where
  pub fault : stop ≡ Fault → PutFailed looks out watch
  pub front : GainedFront out (run_text config)
  pub whole_log : stop ≡ Fault → ¬ SinkFailed out → GainedText out (run_text config)
  pub pictures : IfSome looks (λ n. GainedPicturesFront n config watch)

-- a run has come to its end, and this was observed of it
pub record IsAtEnd (observed : List WorldPicture) (progress : Progress) : Type 0 where
  pub begins : BeginsAs progress.world.config observed
  pub config : values_of progress.picture.value.config.value ≡ progress.world.config
  pub update : progress.picture.value.update ≡ progress.world.update
  pub heard : IsHeard progress.world.config progress.world.update progress.note

-- the line of a run's last picture is put where it is news, and its world is left, or the put stops
pub record EndsWatched (progress : Progress) (newest : Option ℕ) (before after : SinkState)
    (result : Result WorldValue SinkStop) : Type 0 where
  pub world : IfOk result (λ world. world ≡ progress.world)
  pub line : WritesAll before after (pictures_text progress.world.config
      (news newest progress.world.update progress.world.update)) result

-- how a run ends whose runner and watcher ended so: the runner's stop comes before the watcher's
abbrev pub EndsRun : Result Progress SinkStop → Result (Option ℕ) SinkStop
    → SinkState → SinkState → Result WorldValue SinkStop → Type 0
EndsRun (Err stop) watched before after result = (result ≡ Err stop) × (after ≡ before)
EndsRun (Ok progress) (Err stop) before after result = (result ≡ Err stop) × (after ≡ before)
EndsRun (Ok progress) (Ok newest) before after result =
    EndsWatched progress newest before after result

-- a configuration's run with a watcher of so many looks came to its end, or it stopped
pub record RunsWatched (looks : ℕ) (config : ConfigValues) (out watch : Change SinkState)
    (result : Result WorldValue SinkStop) : Type 0 where
  pub world : IfOk result (IsFinalWorld config)
  pub ok : OnOk result (GainedText out (run_text config))
  pub watched : OnOk result (GainedPictures looks config watch)
  pub err : IfErr result (StopsRun (Some looks) config out watch)
