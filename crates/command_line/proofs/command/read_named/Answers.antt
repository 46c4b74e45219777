use Rattle.std.proofs.Common.{map, string_bytes}
use Rattle.std.specs.Prelude.{drop}
use Rattle.command_line.proofs.RangeLemmas.{descent_in_range, workers_in_range}
use Rattle.command_line.proofs.command.read_named.Goals as goal

pub returns-in_ok-read_run-in-run-clause-range : goal.returns-in_ok-read_run-in-run-clause-range
returns-in_ok-read_run-in-run-clause-range c =
    workers_in_range _ _ c.in_ok-read_run-in-run.ensures

pub returns-in_ok-read_lineage-in-lineage-clause-range : goal.returns-in_ok-read_lineage-in-lineage-clause-range
returns-in_ok-read_lineage-in-lineage-clause-range c =
    descent_in_range (drop 1 (map string_bytes c.args.words.now)) _
    c.in_ok-read_lineage-in-lineage.ensures
