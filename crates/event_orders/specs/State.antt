-- A run between two of its events (docs/WORLD.md, "Any order of events").
use Rattle.std.specs.Prelude.{ℕ, ◌+◌, Bool, false, List, [], ◌∷◌, Option, None, Some, length, map, unwrap_or}
use Rattle.std.specs.List.{filter_map, range_with_len}
use Rattle.genotype_bank.specs.declared.view.Call.TheVariants.{Interned}
use Rattle.genotype_bank.specs.declared.view.Entry.{Entry}
use Rattle.genotype_bank.specs.BankHistory.{entry}
use Rattle.instruction_set.specs.declared.letter.Letter.{Letter}
use Rattle.world_config.specs.Events.{WhatValue, inject}
use Rattle.world_config.specs.Values.{ConfigValues}
use Rattle.world_rules.specs.World.{World}
use Rattle.world_rules.specs.Lives.{CellLife, no_life, life_at}
use Rattle.world_rules.specs.Update.{events_at}
use Rattle.world_rules.specs.Picture.{PictureValue, picture_of}
use Rattle.world_rules.specs.WorldRun.{world_after}

-- a run between two of its events
pub record State : Type 0 where
  -- as its update began
  pub world : World
  -- of the cells that have lived since then
  pub results : ℕ → Option CellLife
  -- which newborns of a cell are in the bank
  pub interned : ℕ → ℕ → Bool
  -- the bank's
  pub history : List Entry
  -- those published
  pub pictures : List PictureValue
  -- the greatest number that an observer has seen
  pub seen : ℕ → ℕ

-- the entry of a seat that interned a genome
abbrev pub genome_entry : ℕ → List Letter → Entry
genome_entry seat genome = entry seat (Interned genome)

-- the founder lives and is interned, and its picture is published and seen
abbrev pub opening : ConfigValues → State
opening config = record {
  world = world_after config 0;
  results = λ cell. None;
  interned = λ cell nth. false;
  history = genome_entry 0 config.ancestor ∷ [];
  pictures = picture_of config 0 ∷ [];
  seen = λ observer. 0;
}

-- the life of a cell, from the world as the update begins
abbrev pub life_in : ConfigValues → World → ℕ → CellLife
life_in config w cell = life_at config (w.update + 1) w.cells cell

-- the genomes of a life's newborns, in order of birth
abbrev pub newborn_genomes : CellLife → List (List Letter)
newborn_genomes life = map (λ newborn. newborn.genome) life.newborns

-- the result of a cell, as of an empty cell where it has none
abbrev pub result_of : State → ℕ → CellLife
result_of s cell = unwrap_or (s.results cell) no_life

-- the results of all cells, in their order
abbrev pub results_of : State → List CellLife
results_of s = map (result_of s) (range_with_len 0 (length s.world.cells))

-- the genome that an event injects
abbrev pub injected_by : WhatValue → Option (List Letter)
injected_by (inject cell letters) = Some letters
injected_by _ = None

-- the genomes that the events of an update inject, in order
abbrev pub injections_at : ConfigValues → ℕ → List (List Letter)
injections_at config update =
    filter_map (λ event. injected_by event.1.what) (events_at config update)
