-- What a run with a watcher leaves, by how the runner and the watcher ended.
use Rattle.std.proofs.Common.{◌≡◌, ℕ, List, [], ◌∷◌, ◌++◌, Option, None, Some, IfSome, Result, Ok, Err, refl, sym, append-nil, arith, inl, inr, subst}
use Rattle.logged_run.proofs.Prelude.{SinkState, ConfigValues, SinkStop, Change, GainedFront, GainedText, SinkFailed, Stays, change, WritesAll, nothing_written, writes_short, writes_then, PutFailed, StopsRun, run_text, WritesLooks, news, AreWatched, GainedPictures, GainedPicturesFront, pictures_text}
use Rattle.avida_port.specs.declared.sink.SinkStop.TheVariants as stop
use Rattle.written_texts.proofs.GainedLemmas.{front_short, stays_front}
use Rattle.logged_run.proofs.LookLemmas.{watched}
use Rattle.logged_run.proofs.WatcherLemmas.{pictures_more}

-- the last picture alone
only_last : (looks last : ℕ) → AreWatched looks last (last ∷ [])
only_last looks last = record {
  rising = λ k more. absurd (omega arith);
  ends = ([], refl);
  few = omega arith;
}

-- nothing is a prefix of the lines of the last picture
pub no_pictures : (looks : ℕ) (config : ConfigValues) (watch : Change SinkState) → Stays watch
    → GainedPicturesFront looks config watch
no_pictures looks config watch e = record {
  updates = config.updates ∷ [];
  watched = only_last looks config.updates;
  gained = stays_front watch (pictures_text config (config.updates ∷ [])) e;
}

-- a put to `out` that failed is one of the puts, whether there is a watcher or not
out_failed : (looks : Option ℕ) (out watch : Change SinkState) → SinkFailed out
    → PutFailed looks out watch
out_failed None out watch h = h
out_failed (Some n) out watch h = inl h

-- the log stopped, whatever the watcher has written
pub log_stopped : {T : Type 0} {a b : SinkState} {e : SinkStop} (looks : Option ℕ)
    (config : ConfigValues) (watch : Change SinkState)
    → WritesAll {T = T} a b (run_text config) (Err e)
    → IfSome looks (λ n. GainedPicturesFront n config watch)
    → StopsRun looks config (change a b) watch e
log_stopped {a = a} {b = b} looks config watch ran pictures = record {
  fault = λ is. out_failed looks (change a b) watch (ran.fault is);
  front = ran.err;
  whole_log = λ is well. absurd (well (ran.fault is));
  pictures = pictures;
}

-- the whole log is a prefix of itself
whole_front : (sink : Change SinkState) (text : List ℕ) → GainedText sink text
    → GainedFront sink text
whole_front sink text h = (text, ([], append-nil text), h)

-- the lines of a watcher, from its first look to its end
pub record WritesWatched {T : Type 0} (looks : ℕ) (config : ConfigValues) (before after : SinkState)
    (result : Result T SinkStop) : Type 0 where
  pub updates : List ℕ
  pub watched : AreWatched looks config.updates updates
  pub writes : WritesAll before after (pictures_text config updates) result

-- the watcher stopped before the last look
stopped_looks : {T : Type 0} {a b : SinkState} {e : SinkStop} (looks : ℕ) (config : ConfigValues)
    → WritesLooks looks config a b (Err e) → WritesWatched {T = T} looks config a b (Err e)
stopped_looks {T = T} {a = a} {b = b} {e = e} looks config wrote = record {
  updates = wrote.updates ++ news wrote.newest config.updates config.updates;
  watched = watched looks config.updates wrote.newest wrote.updates wrote.seen;
  writes = subst (λ text. WritesAll {T = T} a b text (Err e))
      (sym (pictures_more config wrote.updates _)) (writes_short {T = Option ℕ} _ wrote.writes);
}

-- the last picture's line comes after those of the looks
last_looks : {T : Type 0} {a b c : SinkState} {newest : Option ℕ} {r : Result T SinkStop}
    (looks : ℕ) (config : ConfigValues) → WritesLooks looks config a b (Ok newest)
    → WritesAll b c (pictures_text config (news newest config.updates config.updates)) r
    → WritesWatched looks config a c r
last_looks {T = T} {a = a} {b = b} {c = c} {newest = newest} {r = r} looks config wrote last =
    let told : newest ≡ wrote.newest = wrote.answer in
    let line : WritesAll {T = T} b c
    (pictures_text config (news wrote.newest config.updates config.updates)) r =
    subst (λ (n : Option ℕ). WritesAll {T = T} b c
    (pictures_text config (news n config.updates config.updates)) r) told last in
    record {
      updates = wrote.updates ++ news wrote.newest config.updates config.updates;
      watched = watched looks config.updates wrote.newest wrote.updates wrote.seen;
      writes = subst (λ text. WritesAll {T = T} a c text r)
          (sym (pictures_more config wrote.updates _)) (writes_then _ wrote.writes line);
    }

-- the lines of a watcher that stopped
pictures_front : {T : Type 0} {a b : SinkState} {e : SinkStop} (looks : ℕ) (config : ConfigValues)
    → WritesWatched {T = T} looks config a b (Err e) → GainedPicturesFront looks config (change a b)
pictures_front looks config wrote =
    record { updates = wrote.updates; watched = wrote.watched; gained = wrote.writes.err }

-- the lines of looks, as far as they were written, are a prefix of those of a watcher
looks_front : {a b : SinkState} (looks : ℕ) (config : ConfigValues)
    (r : Result (Option ℕ) SinkStop)
    → WritesLooks looks config a b r → GainedPicturesFront looks config (change a b)
looks_front {a = a} {b = b} looks config (Ok newest) wrote = record {
  updates = wrote.updates ++ news wrote.newest config.updates config.updates;
  watched = watched looks config.updates wrote.newest wrote.updates wrote.seen;
  gained = subst (GainedFront (change a b)) (sym (pictures_more config wrote.updates _))
      (front_short a.held b.held _ _
      (whole_front (change a b) (pictures_text config wrote.updates) wrote.writes.ok));
}
looks_front looks config (Err e) wrote =
    pictures_front {T = Option ℕ} looks config (stopped_looks looks config wrote)

-- the log is whole, and the watcher stopped
watch_stopped : {T : Type 0} {a b : SinkState} {e : SinkStop} (looks : ℕ) (config : ConfigValues)
    (out : Change SinkState)
    → GainedText out (run_text config) → WritesWatched {T = T} looks config a b (Err e)
    → StopsRun (Some looks) config out (change a b) e
watch_stopped looks config out whole wrote = record {
  fault = λ is. inr (wrote.writes.fault is);
  front = whole_front out (run_text config) whole;
  whole_log = λ is well. whole;
  pictures = pictures_front looks config wrote;
}

-- the runner stopped, however the watcher ended
pub runner_stopped : {T : Type 0} {a b c d : SinkState} {e : SinkStop} (looks : ℕ)
    (config : ConfigValues) (r : Result (Option ℕ) SinkStop)
    → WritesAll {T = T} a b (run_text config) (Err e) → WritesLooks looks config c d r
    → StopsRun (Some looks) config (change a b) (change c d) e
runner_stopped {c = c} {d = d} looks config r ran wrote =
    log_stopped (Some looks) config (change c d) ran (looks_front looks config r wrote)

-- the runner came to its end, and the watcher stopped at one of its looks
pub watcher_stopped : {a b c d : SinkState} {e : SinkStop} (looks : ℕ) (config : ConfigValues)
    → GainedText (change a b) (run_text config) → WritesLooks looks config c d (Err e)
    → StopsRun (Some looks) config (change a b) (change c d) e
watcher_stopped {a = a} {b = b} looks config ran wrote =
    watch_stopped {T = Option ℕ} looks config (change a b) ran (stopped_looks looks config wrote)

-- both came to their end, and the last picture's line stopped
pub last_stopped : {U : Type 0} {a b c d f : SinkState} {newest : Option ℕ} {e : SinkStop}
    (looks : ℕ) (config : ConfigValues)
    → GainedText (change a b) (run_text config) → WritesLooks looks config c d (Ok newest)
    → WritesAll {T = U} d f (pictures_text config (news newest config.updates config.updates))
    (Err e) → StopsRun (Some looks) config (change a b) (change c f) e
last_stopped {U = U} {a = a} {b = b} looks config ran wrote last =
    watch_stopped {T = U} looks config (change a b) ran (last_looks looks config wrote last)

-- both came to their end, and the last picture's line is written
pub all_watched : {U : Type 0} {c d f : SinkState} {newest : Option ℕ} {u : U} (looks : ℕ)
    (config : ConfigValues) → WritesLooks looks config c d (Ok newest)
    → WritesAll {T = U} d f (pictures_text config (news newest config.updates config.updates))
    (Ok u) → GainedPictures looks config (change c f)
all_watched looks config wrote last =
    let all = last_looks looks config wrote last in
    record { updates = all.updates; watched = all.watched; gained = all.writes.ok }

-- memory ran out before anything was written
pub nothing_run : (looks : ℕ) (config : ConfigValues) (out watch : SinkState)
    → StopsRun (Some looks) config (change out out) (change watch watch) stop.Memory
nothing_run looks config out watch =
    log_stopped (Some looks) config (change watch watch)
    (nothing_written {T = Unit {0}} out (run_text config))
    (no_pictures looks config (change watch watch) refl)
