-- What the proofs of this crate cite from outside most often, passed on from one place.
pub use Rattle.logged_run.specs.Prelude.{Change, ConfigValues, GainedFront, GainedText, SinkFailed, SinkState, WorldPicture, WorldValue, SinkStop, WritesAll, change, end_text, head_text, update_text, updates_text, values_of}
pub use Rattle.logged_run.specs.Publishing.{HasCome, IsBeginning, IsBegun, IsNew, IsPublished, RunsToEnd, WritesLog}
pub use Rattle.logged_run.specs.RunText.{AreSmall, AreSumsOf, AreSumsWith, IsEndOf, IsFinalWorld, IsSumOver, IsSumWith, IsWorldAt, run_text}
unfoldable pub use Rattle.logged_run.specs.RunText.{births_until, deaths_until}
pub use Rattle.logged_run.specs.WatchedRun.{EndsRun, EndsWatched, IsAtEnd, PutFailed, RunsWatched, StopsRun}
pub use Rattle.logged_run.specs.Watching.{ArePictures, AreSeen, AreWatched, BeginsAs, GainedPictures, GainedPicturesFront, HasLooked, IsHeard, LooksOn, Watches, WritesLooks, is_news, newest_after, news, pictures_text}
pub use Rattle.logged_run.specs.declared.publishing.Progress.{Progress}
pub use Rattle.published_world.proofs.PublicationLemmas.{last_of_more}
pub use Rattle.published_world.specs.PublicationHistory.{IsPublication, MayFollow, last_of, longer}
pub use Rattle.std.proofs.lemmas.Bool.Decides.{nat_tests}
pub use Rattle.std.proofs.lemmas.List.{get_or_append_left, get_or_push, length_push, take_all, take_more}
pub use Rattle.std.proofs.lemmas.Option.{slice_get-get_or, slice_get_within}
pub use Rattle.std.proofs.lemmas.Result.{err_from_is_err_and}
unfoldable pub use Rattle.world_rules.specs.LogText.{log_text}
pub use Rattle.written_texts.proofs.WriteLemmas.{kept_holds, kept_writes, never_fails, nothing_written, put_written, stopped_same, wanting_after, writes_nothing, writes_same, writes_short, writes_then}
pub use Rattle.written_texts.specs.SinkChanges.{Stays}
pub use mathlib.Core.List.{IsPrefix}
