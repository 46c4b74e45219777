-- The workers that the words of `run` and of `lineage` give are from 1 to 64.
use Rattle.std.proofs.Common.{◌≡◌, ◌≤◌, ℕ, List, Option, Some, option_and_then, rules}
use Rattle.command_line.proofs.Prelude.{Told}
use Rattle.numerals.specs.Numeral.{number_of}
use Rattle.command_line.specs.Commands.{lineage_told, run_of}
use Rattle.command_line.specs.declared.positional.Lineage.{Lineage}
use Rattle.command_line.specs.declared.run.Run.{Run}

-- the workers of a run that the words give are from 1 to 64
pub workers_in_range : (told : Option Told) (run : Run) → option_and_then run_of told ≡ Some run
    → (1 ≤ run.workers) × (run.workers ≤ 64)
unfolding number_of
workers_in_range told run e = search rules

-- the workers of a line of descent that the words ask for are from 1 to 64
pub descent_in_range : (words : List (List ℕ)) (lineage : Lineage)
    → lineage_told words ≡ Some lineage → (1 ≤ lineage.workers) × (lineage.workers ≤ 64)
unfolding number_of
descent_in_range words lineage e = search rules
