use Rattle.lineage_log.proofs.Prelude.{lines_of}
use Rattle.lineage_log.proofs.ReadLemmas.{good_read}
use Rattle.lineage_log.proofs.read.read_log.Goals as goal

pub from_lines-requires : goal.from_lines-requires
from_lines-requires c = good_read c.read_exactly.ensures c.args.bytes.now
    (lines_of c.in_ok-read_lines.field-0.items) c.in_ok-read_lines.ensures
