use Rattle.std.proofs.Common.{◌∙◌, ℕ, List, Ok, sym, ap}
use Rattle.lineage_log.proofs.Prelude.{LeavesReader, living_residents_of, Resident, log_of, reader_of}
use Rattle.lineage_log.specs.declared.reader.Reader as code
use Rattle.lineage_log.proofs.ReadLemmas.{ReadsExactly, good_read}
use Rattle.lineage_log.proofs.ReplayLemmas.{Leaves, leaves}
use Rattle.lineage_log.proofs.residents.living_at_end.Goals as goal

-- what the lines that were read leave in the reader that they were told to
left : ReadsExactly → (bytes : List ℕ) (reader : code.Reader)
    → (read : LeavesReader (Ok reader) (log_of bytes))
    → Leaves read.0 (reader_of reader)
left law bytes reader read =
    leaves read.0 (reader_of reader) (good_read law bytes read.0 read.1) read.2

pub living_in-requires : goal.living_in-requires
living_in-requires c =
    let left =
    left c.read_exactly.ensures c.args.bytes.now c.in_ok-reader.reader c.in_ok-reader.ensures in
    record { kept = left.kept; few = left.few }

pub returns : goal.returns
returns c =
    let read = c.in_ok-reader.ensures in
    let left = left c.read_exactly.ensures c.args.bytes.now c.in_ok-reader.reader read in
    λ other. ap (λ (livings : List Resident). Ok livings) (c.in_ok-living_in.ensures ∙ left.living)
    ∙ sym (ap living_residents_of read.1)
