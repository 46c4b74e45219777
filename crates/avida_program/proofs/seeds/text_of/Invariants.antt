-- The lines so far are written.
use Rattle.std.proofs.Common.{◌≡◌, take}
use Rattle.std.specs.Prelude.{flat_map}
use Rattle.assay.specs.Assay.{assay_line}
use Rattle.avida_program.proofs.seeds.text_of.Given as goal

abbrev pub invariant-loop-assay : goal.invariant-loop-assay
invariant-loop-assay l = l.text.items ≡ flat_map assay_line (take l.assay-index l.assays)
