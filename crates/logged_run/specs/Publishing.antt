-- How a run begins that publishes its pictures, and how far it has come (docs/ARCHITECTURE.md,
-- "Pictures and observers").
use Rattle.std.specs.Prelude.{◌≡◌, ◌+◌, ℕ, List, Option, None, Some, IfOk, IfSome, Result}
use Rattle.logged_run.specs.Prelude.{SinkState, values_of, ConfigValues, WorldPicture, SinkStop, WritesAll}
use Rattle.logged_run.specs.declared.publishing.Progress.{Progress}
use Rattle.logged_run.specs.RunText.{IsWorldAt, run_text}
use Rattle.logged_run.specs.Watching.{ArePictures, BeginsAs}
use Rattle.logged_run.specs.declared.beginning.Beginning.{Beginning}

-- the pictures of all updates up to this one were published, and a note of the last tells of them
pub record IsPublished (config : ConfigValues) (update : ℕ) (published : List WorldPicture)
    (picture : WorldPicture) (told : List WorldPicture) : Type 0 where
  pub pictures : ArePictures config (update + 1) published
  pub picture_config : values_of picture.config.value ≡ config
  pub picture_update : picture.update ≡ update
  pub note : told ≡ published

-- a run has come to this update: all pictures were published, and it has the last and its note
pub record HasCome (config : ConfigValues) (update : ℕ) (published : List WorldPicture)
    (progress : Progress) : Type 0 where
  pub world : IsWorldAt config update progress.world
  pub pictures : ArePictures config (update + 1) published
  pub picture_config : values_of progress.picture.value.config.value ≡ config
  pub picture_update : progress.picture.value.update ≡ update
  pub note : IfSome progress.note (λ told. told ≡ published)
  pub first : progress.note ≡ None → update ≡ 0

-- a configuration's run was begun, and its first picture was published
pub record IsBegun (config : ConfigValues) (published : List WorldPicture)
    (begun : Option Progress) : Type 0 where
  pub progress : Progress
  pub is : begun ≡ Some progress
  pub come : HasCome config 0 published progress

-- the log of a configuration's run is written, or it stops
pub record WritesLog {T : Type 0} (config : ConfigValues) (before after : SinkState)
    (result : Result T SinkStop) : Type 0 where
  pub text : List ℕ
  pub is : text ≡ run_text config
  pub writes : WritesAll before after text result

-- a configuration's run came to its end, and its log is written, or it stopped
pub record RunsToEnd (config : ConfigValues) (published : List WorldPicture)
    (before after : SinkState) (result : Result Progress SinkStop) : Type 0 where
  pub come : IfOk result (HasCome config config.updates published)
  pub log : WritesLog config before after result

-- the world of update 0 of a configuration, with its picture
pub record IsNew (config : ConfigValues) (progress : Progress) : Type 0 where
  pub world_config : progress.world.config ≡ config
  pub world_new : progress.world.update ≡ 0
  pub picture_config : values_of progress.picture.value.config.value ≡ config
  pub picture_new : progress.picture.value.update ≡ 0
  pub untold : progress.note ≡ None

-- a configuration's run was begun, and its first picture is published
pub record IsBeginning (config : ConfigValues) (beginning : Beginning) : Type 0 where
  pub config_is : values_of beginning.config.value ≡ config
  pub begun : IsBegun config beginning.publisher beginning.progress
  pub observed : BeginsAs config beginning.observer
