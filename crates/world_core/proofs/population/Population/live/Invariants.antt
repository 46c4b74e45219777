use Rattle.world_core.proofs.Prelude.{occupants_of, IsKeptOf}
use Rattle.world_core.proofs.CountLemmas.{mixed}
use Rattle.world_core.proofs.population.Population.live.Given as goal

-- the first cells are counted as their lives have left them
abbrev pub invariant-loop-cell : goal.invariant-loop-cell
invariant-loop-cell g l =
    IsKeptOf (mixed (occupants_of l.left.items l.ids.items) l.fn.self.cells l.cell) l.fn.self.bank
    l.keys.items l.census
