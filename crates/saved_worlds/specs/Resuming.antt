-- How a saved world goes on: by the rules of an update, without events (docs/WORLD.md, "Saved
-- worlds").
use Rattle.std.specs.Prelude.{ℕ, zero, suc, ◌+◌, List, [], ◌++◌, length, replicate}
use Rattle.lineage_log.specs.Ancestry.{Link}
use Rattle.lineage_log.specs.LogGrammar.{lines_text}
use Rattle.world_config.specs.Values.{ConfigValues}
use Rattle.world_rules.specs.World.{World, founder_link}
use Rattle.world_rules.specs.Update.{next_world}
use Rattle.world_rules.specs.LogText.{update_lines, end_text}
use Rattle.saved_lines.specs.SavedValues.{HeadValues}
use Rattle.saved_worlds.specs.SavedState.{SavedState}

-- what a head goes on with, as a configuration without events and ancestor
abbrev pub config_of_head : HeadValues → ConfigValues
config_of_head head = record {
  width = head.width;
  height = head.height;
  updates = 0;
  seed = head.seed;
  founder_cell = 0;
  average_slices = head.average_slices;
  death = head.death;
  age_limit = head.age_limit;
  rates = head.rates;
  prefer_empty = head.prefer_empty;
  rules = head.rules;
  memory_limit = head.memory_limit;
  ancestor = [];
  event = [];
}

-- stands for each organism that ever was: a saved world tells no more of them than their number
abbrev pub forgotten : Link
forgotten = founder_link 0 0 0 []

-- the world that a state goes on from
abbrev pub world_of_state : SavedState → World
world_of_state state = record {
  update = state.head.update;
  cells = state.cells;
  everyone = replicate state.head.next_id forgotten;
}

-- the state that another world of its run leaves
abbrev pub with_world : SavedState → World → SavedState
with_world state w = record {
  head = record state.head { update = w.update; next_id = length w.everyone };
  cells = w.cells;
}

-- the state after one more update
unfoldable pub next_state : SavedState → SavedState
next_state state = with_world state (next_world (config_of_head state.head) (world_of_state state))

-- the state after so many more updates
unfoldable pub saved_state_after : SavedState → ℕ → SavedState
saved_state_after state zero = state
saved_state_after state (suc n) = next_state (saved_state_after state n)

-- the text of the update that follows a state
unfoldable pub next_text : SavedState → List ℕ
next_text state = lines_text (update_lines (config_of_head state.head) (world_of_state state))

-- the texts of so many more updates
abbrev pub later_texts : SavedState → ℕ → List ℕ
later_texts state zero = []
later_texts state (suc n) = later_texts state n ++ next_text (saved_state_after state n)

-- what a resumed world writes: the texts of so many more updates, and the last line of a log
unfoldable pub continued_text : SavedState → ℕ → List ℕ
continued_text state more = later_texts state more ++ end_text (state.head.update + more)
