use Rattle.avida_program.proofs.Prelude.{log_of, ReadsLog, ReadsSaved, saved_of}
use Rattle.avida_program.proofs.ReadInputs.{made_exactly}
use Rattle.avida_program.proofs.laws.inputs_are_read_one_way.Goals as goal

pub returns-clause-lines : goal.returns-clause-lines
returns-clause-lines c = λ bytes answer.
    made_exactly (ReadsLog bytes) (log_of bytes) (c.one_answer.ensures bytes) _ answer

pub returns-clause-state : goal.returns-clause-state
returns-clause-state c = λ more bytes answer.
    made_exactly (ReadsSaved bytes) (saved_of bytes) (c.one_answer-2.ensures bytes) _ answer
