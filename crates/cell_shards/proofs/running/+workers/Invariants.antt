use Rattle.std.proofs.Common.{◌+◌, ◌*◌}
use Rattle.cell_shards.proofs.running.+workers.Given as goal

abbrev pub decreases-run_together : goal.decreases-run_together
decreases-run_together g l = 2 * l.workers

abbrev pub decreases-here : goal.decreases-here
decreases-here g l = 2 * l.worker + 1
