-- A text that is written to a sink, or not to its end, also in held pieces (docs/ARCHITECTURE.md,
-- "Sources and sinks").
use Rattle.std.specs.Prelude.{◌≡◌, ◌++◌, ℕ, List, Result, OnOk, OnErr, IfErr}
use Rattle.avida_port.specs.Ports.{SinkState, Puts, CountsClimb, Gained, GainedPrefix, Rose}
use Rattle.avida_port.specs.declared.sink.SinkStop.{SinkStop}
use Rattle.avida_port.specs.declared.sink.SinkStop.TheVariants.{Fault}

-- a text goes behind what is held: all is put but what is held now, or a prefix is put
pub record Writes (before after : SinkState) (old new text : List ℕ)
    (result : Result (Unit {0}) SinkStop) : Type 0 where
  pub ok : OnOk result
      ((part : List ℕ) × (part ++ new ≡ old ++ text) × Puts before after part result)
  pub err : OnErr result (Puts before after (old ++ text) result)

-- a text is written, or a prefix of it; the counts show that a write failed
pub record WritesAll {T : Type 0} (before after : SinkState) (text : List ℕ)
    (result : Result T SinkStop) : Type 0 where
  pub ok : OnOk result (Gained before after text)
  pub err : OnErr result (GainedPrefix before after text)
  pub fault : IfErr result (λ stop. stop ≡ Fault → Rose before.faults after.faults)
  pub counts : CountsClimb before after
