-- By the table.
use Rattle.instruction_set.proofs.LetterLemmas.{found_again}
use Rattle.instruction_set.proofs.laws.found_again.Goals as goal

pub returns-clause-by_index : goal.returns-clause-by_index
returns-clause-by_index c = (found_again c.args.letter).by_index

pub returns-clause-by_byte : goal.returns-clause-by_byte
returns-clause-by_byte c = (found_again c.args.letter).by_byte

pub returns-clause-by_name : goal.returns-clause-by_name
returns-clause-by_name c = (found_again c.args.letter).by_name
