use Rattle.std.proofs.Common.{◌≡◌, ◌++◌, drop}
use Rattle.lineage_log.proofs.Prelude.{residents_from, kept_genomes}
use Rattle.lineage_log.proofs.residents.living_in.Given as goal

abbrev pub invariant-loop-cell : goal.invariant-loop-cell
invariant-loop-cell l = l.livings.items ++ residents_from l.cell (drop l.cell l.reader.standing)
    (kept_genomes l.reader.people)
    ≡ residents_from 0 l.reader.standing (kept_genomes l.reader.people)
