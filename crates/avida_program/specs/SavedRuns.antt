-- How a run goes on that is saved, and resumed or advanced (docs/WORLD.md, "Saved worlds").
use Rattle.std.specs.Prelude.{◌≡◌, ◌+◌, ◌≤◌, ℕ, List, ◌++◌, Ok, length}
use Rattle.avida_program.specs.Prelude.{run_text, continued_text, saved_state_after, SavedState, ConfigValues, end_text, log_text}
use Rattle.avida_program.specs.Input.{resume_input_of}
use Rattle.avida_program.specs.Output.{save_text, advanced_text}
use Rattle.saved_worlds.specs.ValidState.{FitsText}

-- what `save` writes of a run is not too long, and so many more updates don't go past the greatest
pub record CanResume (config : ConfigValues) (more : ℕ) : Type 0 where
  pub short : length (save_text config) ≤ 536870912
  pub updates : config.updates + more ≤ 1000000

-- `resume` reads what `save` writes, and goes on from the log, but for its last line, as a longer run
pub record ResumesExactly (config : ConfigValues) (more : ℕ) : Type 0 where
  pub log : List ℕ
  pub is_log : log ++ end_text config.updates ≡ run_text config
  pub state : SavedState
  pub reads : resume_input_of more (save_text config) ≡ Ok state
  pub goes_on : log ++ continued_text state more ≡ log_text config (config.updates + more)

-- the configuration of the same run with so many more updates
abbrev pub longer_run : ConfigValues → ℕ → ConfigValues
longer_run config more = record config { updates = config.updates + more }

-- `advance` reads what `save` writes of a run, and writes what it writes of the run so much longer
pub record AdvancesExactly (config : ConfigValues) (more : ℕ) : Type 0 where
  pub state : SavedState
  pub reads : resume_input_of more (save_text config) ≡ Ok state
  pub goes_on : advanced_text state more ≡ save_text (longer_run config more)

-- what a saved world is after some updates and then some more, it is after all of them
abbrev pub AddsUp : SavedState → ℕ → ℕ → Type 0
AddsUp state first second =
    saved_state_after (saved_state_after state first) second
    ≡ saved_state_after state (first + second)

-- what `resume` writes of some updates without its last line, and then what it writes of some more
-- once the world is advanced, is what it writes of all of them
pub record ResumesInTwo (state : SavedState) (first second : ℕ) : Type 0 where
  pub log : List ℕ
  pub is_log : log ++ end_text (state.head.update + first) ≡ continued_text state first
  pub goes_on : log ++ continued_text (saved_state_after state first) second
      ≡ continued_text state (first + second)

-- `advance` reads this input for all updates; what it writes of the first ones is not too long,
-- and its next id and its ages are such as the lines of a saved world have
pub record CanAdvanceInTwo (bytes : List ℕ) (state : SavedState) (first second : ℕ) : Type 0 where
  pub reads : resume_input_of (first + second) bytes ≡ Ok state
  pub fits : FitsText (saved_state_after state first)
  pub short : length (advanced_text state first) ≤ 536870912

-- `advance` by the first updates reads the input too; by the second ones it reads what the first
-- call wrote, and writes what it writes of all updates at once
pub record AdvancesInTwo (bytes : List ℕ) (state : SavedState) (first second : ℕ) : Type 0 where
  pub begins : resume_input_of first bytes ≡ Ok state
  pub between : SavedState
  pub reads : resume_input_of second (advanced_text state first) ≡ Ok between
  pub goes_on : advanced_text between second ≡ advanced_text state (first + second)
