-- The pictures of a run, which are published one by one.
use Rattle.std.proofs.Common.{◌≡◌, ◌<◌, ◌≤◌, ◌+◌, ◌-◌, Bool, true, false, ℕ, List, [], ◌∷◌, ◌++◌, Option, None, Some, IfSome, length, nat_lt, refl, sym, ap, ◌∙◌, subst, arith}
use Rattle.logged_run.proofs.Prelude.{IsPrefix, nat_tests, length_push, slice_get_within, IsPublication, MayFollow, last_of, longer, last_of_more, values_of, ConfigValues, WorldPicture, Progress, IsNew, HasCome, IsBegun, IsPublished, IsWorldAt, ArePictures, BeginsAs, IsHeard}
use Rattle.published_world.proofs.PrefixLemmas.{get_in_longer, prefix_length}

-- the configuration of a picture's run
abbrev pub config_in : WorldPicture → ConfigValues
config_in picture = values_of picture.config.value

-- a history that goes on begins as before
pub begins_later : (config : ConfigValues) (history whole : List WorldPicture)
    → BeginsAs config history → IsPrefix history whole → BeginsAs config whole
begins_later config history whole begins more = record {
  first = begins.first;
  is_first = get_in_longer history whole 0 begins.first more begins.is_first;
  new = begins.new;
  same = begins.same;
}

-- the first picture alone
pub first_pictures : (config : ConfigValues) (picture : WorldPicture) → picture.update ≡ 0
    → config_in picture ≡ config → ArePictures config 1 (picture ∷ [])
first_pictures config picture new same = record {
  begins = record { first = picture; is_first = refl; new = new; same = same };
  count_is = refl;
  last = λ other is.
      let here : picture ≡ other = cc is in
      omega (arith, ap (λ (p : WorldPicture). p.update) here, new);
}

-- one more picture
pub more_pictures : (config : ConfigValues) (count : ℕ) (pictures : List WorldPicture)
    (next : WorldPicture) → ArePictures config count pictures
    → next.update ≡ count → ArePictures config (count + 1) (pictures ++ next ∷ [])
more_pictures config count pictures next so is = record {
  begins = begins_later config pictures (pictures ++ next ∷ []) so.begins (next ∷ [], refl);
  count_is = omega (arith, length_push pictures next, so.count_is);
  last = λ other at.
      let here : next ≡ other = cc (at, last_of_more pictures next) in
      omega (arith, ap (λ (p : WorldPicture). p.update) here, is);
}

-- the picture of the next update may come next
pub may_follow : (config : ConfigValues) (count : ℕ) (pictures : List WorldPicture)
    (next : WorldPicture) → ArePictures config count pictures
    → next.update ≡ count → config_in next ≡ config
    → MayFollow (λ (p : WorldPicture). p.update) config_in pictures next
may_follow config count pictures next so is same = record {
  rises = λ last at. omega (arith, so.last last at, is);
  same = λ first at.
      let here : so.begins.first ≡ first = cc (at, so.begins.is_first) in
      same ∙ sym so.begins.same ∙ ap config_in here;
}

-- what a look shows is of the run, and not older than any update that was heard of
pub looked : (config : ConfigValues) (history whole : List WorldPicture) (picture : WorldPicture)
    (update : ℕ) → BeginsAs config history → update < length history
    → IsPrefix history whole → last_of whole ≡ Some picture
    → IsPublication (λ (p : WorldPicture). p.update) config_in whole
    → (update ≤ picture.update) × (config_in picture ≡ config)
looked config history whole picture update begins heard more is publication =
    let first = get_in_longer history whole 0 begins.first more begins.is_first in
    let at = publication.rises (length whole - 1) begins.first picture first is in (
      omega (arith, at, begins.new, heard, prefix_length history whole more),
      publication.same (length whole - 1) begins.first picture first is ∙ begins.same,
    )

-- a history that begins isn't empty
pub begun : (config : ConfigValues) (history : List WorldPicture) → BeginsAs config history
    → 0 < length history
begun config history begins = slice_get_within history 0 begins.first begins.is_first

-- the longer of what was seen and what a note tells, by which of the two it is
longer_by : (test : Bool) (config : ConfigValues) (update : ℕ) (history told : List WorldPicture)
    → BeginsAs config history → ArePictures config (update + 1) told
    → nat_lt (length history) (length told) ≡ test → BeginsAs config (longer history told)
    × (update < length (longer history told))
longer_by true config update history told begins so is =
    rw is (so.begins, omega (arith, so.count_is))
longer_by false config update history told begins so is =
    rw is (begins, grind (arith, nat_tests, is, so.count_is))

-- what was seen, once the last note is heard
pub heard : (config : ConfigValues) (update : ℕ) (history told : List WorldPicture)
    → BeginsAs config history → ArePictures config (update + 1) told
    → BeginsAs config (longer history told) × (update < length (longer history told))
heard config update history told begins so =
    longer_by (nat_lt (length history) (length told)) config update history told begins so refl

-- where a run has come to, said of its own world
pub come_again : {config : ConfigValues} {update : ℕ} {published : List WorldPicture}
    {progress : Progress} → HasCome config update published progress
    → HasCome progress.world.config progress.world.update published progress
come_again {config = config} {published = published} {progress = progress} so =
    subst (λ (of : ConfigValues). HasCome of progress.world.update published progress)
    (sym so.world.config)
    (subst (λ (n : ℕ). HasCome config n published progress) (sym so.world.update) so)

-- where a run has come to that made one more update, said of where it had come to before
pub come_more : {config : ConfigValues} {update : ℕ} {earlier published : List WorldPicture}
    {here next : Progress} → HasCome config update earlier here
    → HasCome here.world.config (here.world.update + 1) published next
    → HasCome config (update + 1) published next
come_more {config = config} {published = published} {here = here} {next = next} so more =
    subst (λ (n : ℕ). HasCome config (n + 1) published next) so.world.update
    (subst (λ (of : ConfigValues). HasCome of (here.world.update + 1) published next)
    so.world.config more)

-- a run has come to the update whose picture was published last
pub come_to : {config : ConfigValues} {update : ℕ} {published told : List WorldPicture}
    {progress : Progress} → IsWorldAt config update progress.world
    → IsPublished progress.world.config progress.world.update published progress.picture.value told
    → progress.note ≡ Some told → HasCome config update published progress
come_to {config = config} {published = published} {told = told} {progress = progress} at made is =
    let picture = progress.picture.value in
    let so = subst (λ (n : ℕ). IsPublished config n published picture told) at.update
    (subst (λ (of : ConfigValues). IsPublished of progress.world.update published picture told)
    at.config made) in
    record {
      world = at;
      pictures = so.pictures;
      picture_config = so.picture_config;
      picture_update = so.picture_update;
      note = rw is so.note;
      first = λ none. absurd (cc (is, none));
    }

-- the last note of a run that has come so far is of all pictures up to the last one
pub last_heard : {config : ConfigValues} {update : ℕ} (published : List WorldPicture)
    (progress : Progress) → HasCome config update published progress
    → IsHeard progress.world.config progress.world.update progress.note
last_heard published progress so =
    let come = come_again so in
    record { told = by progress.note come.note; untold = come.first } where
      by : (note : Option (List WorldPicture)) → IfSome note (λ told. told ≡ published)
          → IfSome note (ArePictures progress.world.config (progress.world.update + 1))
      by None h = tt
      by (Some told) same =
          subst (ArePictures progress.world.config (progress.world.update + 1)) (sym same)
          (come_again so).pictures

-- a run was begun where the picture of a new world is all that was published
pub new_begun : (published : List WorldPicture) (progress : Progress)
    → IsNew progress.world.config progress → published ≡ progress.picture.value ∷ []
    → IsBegun progress.world.config published (Some progress)
new_begun published progress new is = record {
  progress = progress;
  is = refl;
  come = record {
    world = record { config = refl; update = new.world_new };
    pictures = rw is (first_pictures progress.world.config progress.picture.value new.picture_new
        new.picture_config);
    picture_config = new.picture_config;
    picture_update = new.picture_new;
    note = rw new.untold tt;
    first = λ none. refl;
  };
}

-- who observes this picture sees the first one of the run
pub new_observed : (observed : List WorldPicture) (progress : Progress)
    → IsNew progress.world.config progress → observed ≡ progress.picture.value ∷ []
    → BeginsAs progress.world.config observed
new_observed observed progress new is =
    rw is (first_pictures progress.world.config progress.picture.value new.picture_new
    new.picture_config).begins
