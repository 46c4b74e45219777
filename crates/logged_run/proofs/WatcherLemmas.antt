-- What a watcher has written after some of its looks.
use Rattle.std.proofs.Common.{◌≡◌, ◌≤◌, ◌+◌, ℕ, List, [], ◌++◌, Option, None, Some, IfOk, Result, Ok, Err, refl, sym, subst, arith}
use Rattle.logged_run.proofs.Prelude.{IsPrefix, SinkState, IsPublication, last_of, ConfigValues, WorldPicture, SinkStop, WritesAll, AreSeen, BeginsAs, HasLooked, LooksOn, Watches, WritesLooks, newest_after, news, pictures_text, stopped_same, wanting_after, writes_nothing, writes_same, writes_then}
use Rattle.std.proofs.lemmas.Grind.{flat_map-append}
use Rattle.world_rules.specs.Picture.{picture_of, picture_text}
use Rattle.avida_port.specs.declared.sink.SinkStop.TheVariants as stop
use Rattle.logged_run.proofs.LookLemmas.{seen_more, seen_nothing, seen_within}
use Rattle.logged_run.proofs.PublishedLemmas.{begins_later, begun, config_in, looked}

-- no look was made
pub looks_begun : (config : ConfigValues) (observed : List WorldPicture) (a : SinkState)
    → BeginsAs config observed → HasLooked 0 config observed None a a
looks_begun config observed a begins = record {
  begins = begins;
  updates = [];
  seen = seen_nothing config.updates;
  written = writes_nothing a;
}

-- the lines of more pictures come behind those of the first ones
pub pictures_more : (config : ConfigValues) (xs ys : List ℕ)
    → pictures_text config (xs ++ ys) ≡ pictures_text config xs ++ pictures_text config ys
pictures_more config xs ys =
    flat_map-append (λ update. picture_text (picture_of config update)) xs ys

module _ (k : ℕ) (config : ConfigValues) (history whole : List WorldPicture) (newest : Option ℕ)
    (a b c : SinkState)
    (picture : WorldPicture) (so : HasLooked k config history newest a b)
    (more : IsPrefix history whole) (last : last_of whole ≡ Some picture)
    (publication : IsPublication (λ (p : WorldPicture). p.update) config_in whole) where
  -- the picture is of the run
  of_run : config_in picture ≡ config
  of_run = (looked config history whole picture 0 so.begins (begun config history so.begins) more
      last publication).1

  -- its line is put where it is news, or the put stopped
  look_writes : {T : Type 0} (r : Result T SinkStop)
      → WritesAll b c (pictures_text (config_in picture)
      (news newest config.updates picture.update)) r
      → WritesAll a c (pictures_text config
      (so.updates ++ news newest config.updates picture.update)) r
  look_writes {T = T} r line =
      let here : WritesAll {T = T} b c
      (pictures_text config (news newest config.updates picture.update)) r =
      subst (λ (of : ConfigValues). WritesAll {T = T} b c
      (pictures_text of (news newest config.updates picture.update)) r) of_run line in
      subst (λ text. WritesAll {T = T} a c text r) (sym (pictures_more config so.updates _))
      (writes_then _ so.written here)

  -- a look more was made
  look_made : {T : Type 0} (t : T) (after : Option ℕ)
      → WritesAll {T = T} b c (pictures_text (config_in picture)
      (news newest config.updates picture.update)) (Ok t)
      → after ≡ newest_after newest config.updates picture.update
      → HasLooked (k + 1) config whole after a c
  look_made t after line is = record {
    begins = begins_later config history whole so.begins more;
    updates = so.updates ++ news newest config.updates picture.update;
    seen = subst (λ (n : Option ℕ). AreSeen (k + 1) config.updates n
        (so.updates ++ news newest config.updates picture.update)) (sym is)
        (seen_more k config.updates newest so.updates picture.update so.seen);
    written = writes_same (look_writes (Ok t) line);
  }

  -- the watcher stops at this look
  look_stopped : {T : Type 0} (e : SinkStop)
      → WritesAll {T = T} b c (pictures_text (config_in picture)
      (news newest config.updates picture.update)) (Err e)
      → WritesLooks (k + 1) config a c (Err e)
  look_stopped {T = T} e line = record {
    updates = so.updates ++ news newest config.updates picture.update;
    newest = newest_after newest config.updates picture.update;
    seen = seen_more k config.updates newest so.updates picture.update so.seen;
    answer = tt;
    writes = stopped_same (look_writes {T = T} (Err e) line);
  }

  -- a look more was made, or it stopped
  pub look_ended : (r : Result (Option ℕ) SinkStop)
      → WritesAll b c (pictures_text (config_in picture)
      (news newest config.updates picture.update)) r
      → IfOk r (λ after. after ≡ newest_after newest config.updates picture.update)
      → LooksOn k config whole a c r
  look_ended (Ok after) line is = look_made {T = Option ℕ} after after line is
  look_ended (Err e) line is = look_stopped {T = Option ℕ} e line

-- memory ran out at a look
pub look_wanting : (k : ℕ) (config : ConfigValues) (history : List WorldPicture)
    (newest : Option ℕ) (a b : SinkState) → HasLooked k config history newest a b
    → WritesLooks (k + 1) config a b (Err stop.Memory)
look_wanting k config history newest a b so = record {
  updates = so.updates;
  newest = newest;
  seen = seen_within k (k + 1) config.updates newest so.updates so.seen (omega arith);
  answer = tt;
  writes = wanting_after so.written;
}

-- more looks may be made
pub looks_within : (looks more : ℕ) (config : ConfigValues) (a b : SinkState)
    (r : Result (Option ℕ) SinkStop) → WritesLooks looks config a b r → looks ≤ more
    → WritesLooks more config a b r
looks_within looks more config a b r wrote le = record {
  updates = wrote.updates;
  newest = wrote.newest;
  seen = seen_within looks more config.updates wrote.newest wrote.updates wrote.seen le;
  answer = wrote.answer;
  writes = wrote.writes;
}

-- the watcher has come to its end
pub looks_done : (k looks : ℕ) (config : ConfigValues) (history : List WorldPicture)
    (newest : Option ℕ) (a b : SinkState)
    → HasLooked k config history newest a b → k ≤ looks
    → Watches looks config history a b (Ok newest)
looks_done k looks config history newest a b so le = record {
  begins = so.begins;
  lines = record {
    updates = so.updates;
    newest = newest;
    seen = seen_within k looks config.updates newest so.updates so.seen le;
    answer = refl;
    writes = writes_same so.written;
  };
}
