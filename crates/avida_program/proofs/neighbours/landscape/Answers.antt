use Rattle.avida_program.proofs.ReadEnds.{not_read, read_and_wrote}
use Rattle.avida_program.proofs.neighbours.landscape.Goals as goal

pub returns-in_err-genome : goal.returns-in_err-genome
returns-in_err-genome g c =
    not_read c.in_err-genome.field-0.0 c.from_residual.ensures.1 c.in_err-genome.ensures.err

pub returns : goal.returns
returns g c = read_and_wrote c.in_ok-genome.ensures.ok c.write_landscape.ensures c.ended_by.ensures
