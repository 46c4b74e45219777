-- What a call changes of a value, and of a sink (docs/ARCHITECTURE.md, "Sources and sinks").
use Rattle.std.specs.Prelude.{◌≡◌, ℕ, List}
use Rattle.avida_port.specs.Ports.{Rose, Gained, GainedPrefix, SinkState}

-- what a call finds and what it leaves
pub record Change (A : Type 0) : Type 0 where
  pub before : A
  pub after : A

-- a value before and after a call
abbrev pub change : {A : Type 0} → A → A → Change A
change before after = record { before = before; after = after }

-- a value that a call leaves as it is
abbrev pub unchanged : {A : Type 0} → A → Change A
unchanged value = change value value

-- nothing of it was changed
abbrev pub Stays : {A : Type 0} → Change A → Type 0
Stays c = c.after ≡ c.before

-- the faults of a sink rose
abbrev pub SinkFailed : Change SinkState → Type 0
SinkFailed sink = Rose sink.before.faults sink.after.faults

-- exactly this text came behind what the sink held
abbrev pub GainedText : Change SinkState → List ℕ → Type 0
GainedText sink text = Gained sink.before sink.after text

-- a prefix of this text came behind what the sink held
abbrev pub GainedFront : Change SinkState → List ℕ → Type 0
GainedFront sink text = GainedPrefix sink.before sink.after text
