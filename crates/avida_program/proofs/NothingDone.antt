-- A call for which memory ran out before anything was done.
use Rattle.std.proofs.Common.{ℕ, Option, None, Some, IfSome, Result, Err, refl, inl, inr}
use Rattle.avida_program.proofs.Prelude.{ConfigValues, WorldValue, SinkState, SourceState, Command, Refusal, GivenBy, configuration_of, bench_text, Work, Stays, unchanged, Does, Obeys, Watches}
use Rattle.written_texts.proofs.GainedLemmas.{stays_front}
use Rattle.command_line.specs.declared.command.Command.TheVariants.{Run, Lineage, Bench}
use Rattle.avida_program.specs.declared.call_error.CallError.TheVariants as error
use Rattle.avida_program.proofs.ReadEnds.{carried}

-- a watcher that has written nothing
nothing_watched : (looks : Option ℕ) (reading : Result ConfigValues Refusal → Type 0)
    (work : Work)
    → Stays work.watch → IfSome looks (λ n. Watches n reading work (Err error.Memory))
nothing_watched None reading work stays = tt
nothing_watched (Some n) reading work stays = inl stays

-- nothing was read, written or left
abbrev pub untouched : SourceState → SinkState → SinkState → Option WorldValue → Work
untouched source out watch last = record {
  source = unchanged source;
  out = unchanged out;
  watch = unchanged watch;
  last = unchanged last;
}

-- each command may run out of memory before anything was read, written or left
does_nothing : (command : Command) (source : SourceState) (out watch : SinkState)
    (last : Option WorldValue) → Does command (untouched source out watch last) (Err error.Memory)
does_nothing (Run run) source out watch last = record {
  reads = λ bytes is. inl refl;
  watches = λ bytes is. nothing_watched run.watch (GivenBy configuration_of bytes)
      (untouched source out watch last) refl;
  last_world = tt;
  replays = tt;
}
does_nothing (Lineage lineage) source out watch last =
    record { reads = λ bytes is. inl refl; last_world = tt }
does_nothing (Bench bench) source out watch last = record {
  source_stays = refl;
  writes = stays_front (unchanged out) (bench_text bench.seed) refl;
  last_world = tt;
}
does_nothing _ source out watch last = λ bytes is. inl refl

-- memory ran out before anything was done, whatever the words give
pub nothing_done : (command : Option Command) (source : SourceState) (out watch : SinkState)
    (last : Option WorldValue)
    → Obeys command (untouched source out watch last) (Err error.Memory)
nothing_done None source out watch last = record {
  refused = inr refl;
  source_stays = refl;
  out_stays = refl;
  watch_stays = refl;
  last_stays = refl;
}
nothing_done (Some command) source out watch last =
    carried command (untouched source out watch last) (Err error.Memory) tt (λ e. refl) refl
    (λ e. refl) (does_nothing command source out watch last)
