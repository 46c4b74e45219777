use Rattle.std.proofs.Common.{◌∙◌, List, ap}
use Rattle.lineage_log.proofs.Prelude.{left_of, lines_of}
use Rattle.log_lines.specs.declared.log_line.LogLine.{LogLine}
use Rattle.lineage_log.proofs.LeftLemmas.{left_at_start}
use Rattle.lineage_log.proofs.ReadLemmas.{front_none, with_front}
use Rattle.lineage_log.proofs.read.read_lines.Goals as goal

pub loop-reader-init : goal.loop-reader-init
loop-reader-init c =
    let reader = c.reader_of_bytes-reader.result in
    ap (λ (lines : List LogLine). with_front (lines_of lines) (left_of reader))
    c.new-lines.ensures.items
    ∙ front_none (left_of reader)
    ∙ left_at_start c.args.bytes.now reader c.reader_of_bytes-reader.ensures
