use Rattle.std.proofs.Common.{ap}
use Rattle.lineage_log.proofs.Prelude.{line_values}
use Rattle.lineage_log.proofs.reader.Reader.tell.Goals as goal

pub unreachable-requires : goal.unreachable-requires
unreachable-requires c = c.requires c.in-End.updates (ap line_values c.in-End.is)
