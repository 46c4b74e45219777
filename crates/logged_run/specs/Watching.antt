-- What the watcher of a run has seen and written, look by look (docs/ARCHITECTURE.md, "Pictures and
-- observers"; docs/FORMATS.md, "Watch lines").
use Rattle.std.specs.Prelude.{◌≡◌, ◌≤◌, ◌+◌, ℕ, List, [], ◌∷◌, ◌++◌, flat_map, length, ◌&&◌, Bool, Option, None, Some, IfSome, IfOk, OnOk, Result, Ok, Err, nat_le, nat_lt, if◌then◌else◌}
use Rattle.logged_run.specs.Prelude.{ConfigValues, picture_of, picture_text, Change, GainedFront, GainedText, SinkState, values_of, WorldPicture, SinkStop, WritesAll}
use Rattle.std.specs.List.Sorted.{IsStrictlyIncreasing}
use Rattle.published_world.specs.PublicationHistory.{first_of, last_of}

-- the lines of the pictures of a run after these updates
abbrev pub pictures_text : ConfigValues → List ℕ → List ℕ
pictures_text config updates = flat_map (λ update. picture_text (picture_of config update)) updates

-- the updates that a watcher of so many looks may write: they rise, and the last is the run's
pub record AreWatched (looks last : ℕ) (updates : List ℕ) : Type 0 where
  pub rising : IsStrictlyIncreasing updates
  pub ends : (earlier : List ℕ) × (updates ≡ earlier ++ last ∷ [])
  pub few : length updates ≤ looks + 1

-- the sink gained the lines of such pictures
pub record GainedPictures (looks : ℕ) (config : ConfigValues) (watch : Change SinkState)
    : Type 0 where
  pub updates : List ℕ
  pub watched : AreWatched looks config.updates updates
  pub gained : GainedText watch (pictures_text config updates)

-- the sink gained a prefix of the lines of such pictures
pub record GainedPicturesFront (looks : ℕ) (config : ConfigValues) (watch : Change SinkState)
    : Type 0 where
  pub updates : List ℕ
  pub watched : AreWatched looks config.updates updates
  pub gained : GainedFront watch (pictures_text config updates)

-- the first of these pictures is that of a configuration's world of update 0
pub record BeginsAs (config : ConfigValues) (pictures : List WorldPicture) : Type 0 where
  pub first : WorldPicture
  pub is_first : first_of pictures ≡ Some first
  pub new : first.update ≡ 0
  pub same : values_of first.config.value ≡ config

-- the pictures of a configuration's world from update 0 on, so many of them
pub record ArePictures (config : ConfigValues) (count : ℕ) (pictures : List WorldPicture)
    : Type 0 where
  pub begins : BeginsAs config pictures
  pub count_is : length pictures ≡ count
  pub last : (picture : WorldPicture) → last_of pictures ≡ Some picture → picture.update + 1 ≡ count

-- a note of all pictures up to this update; there is none where only the first was published
pub record IsHeard (config : ConfigValues) (update : ℕ) (note : Option (List WorldPicture))
    : Type 0 where
  pub told : IfSome note (ArePictures config (update + 1))
  pub untold : note ≡ None → update ≡ 0

-- a picture is newer than the newest that was written, and the run comes to its update
abbrev pub is_news : Option ℕ → ℕ → ℕ → Bool
is_news (Some written) last update = nat_lt written update && nat_le update last
is_news None last update = nat_le update last

-- the updates whose lines are written after a look at this one
abbrev pub news : Option ℕ → ℕ → ℕ → List ℕ
news newest last update = if is_news newest last update then update ∷ [] else []

-- the newest update that is written then
abbrev pub newest_after : Option ℕ → ℕ → ℕ → Option ℕ
newest_after newest last update = if is_news newest last update then Some update else newest

-- updates whose lines so many looks may write: they rise up to the newest, and the run comes to it
pub record AreSeen (looks last : ℕ) (newest : Option ℕ) (updates : List ℕ) : Type 0 where
  pub rising : IsStrictlyIncreasing updates
  pub newest_is : last_of updates ≡ newest
  pub within : IfSome newest (λ update. update ≤ last)
  pub few : length updates ≤ looks

-- the lines that so many looks write, or where they stop; the answer is the newest update
pub record WritesLooks (looks : ℕ) (config : ConfigValues) (before after : SinkState)
    (result : Result (Option ℕ) SinkStop) : Type 0 where
  pub updates : List ℕ
  pub newest : Option ℕ
  pub seen : AreSeen looks config.updates newest updates
  pub answer : IfOk result (λ answer. answer ≡ newest)
  pub writes : WritesAll before after (pictures_text config updates) result

-- so many looks were made, this was observed, and the lines of what was seen are written
pub record HasLooked (looks : ℕ) (config : ConfigValues) (observed : List WorldPicture)
    (newest : Option ℕ) (before after : SinkState) : Type 0 where
  pub begins : BeginsAs config observed
  pub updates : List ℕ
  pub seen : AreSeen looks config.updates newest updates
  pub written : WritesAll {T = Unit {0}} before after (pictures_text config updates) (Ok tt)

-- after so many looks one more was made, or it stopped
abbrev pub LooksOn : ℕ → ConfigValues → List WorldPicture → SinkState → SinkState
    → Result (Option ℕ) SinkStop → Type 0
LooksOn looks config observed before after (Ok newest) =
    HasLooked (looks + 1) config observed newest before after
LooksOn looks config observed before after (Err e) =
    WritesLooks (looks + 1) config before after (Err e)

-- a watcher that looks so often came to the end of its looks, having observed this, or it stopped
pub record Watches (looks : ℕ) (config : ConfigValues) (observed : List WorldPicture)
    (before after : SinkState) (result : Result (Option ℕ) SinkStop) : Type 0 where
  pub begins : OnOk result (BeginsAs config observed)
  pub lines : WritesLooks looks config before after result
