use Rattle.instruction_set.proofs.LetterLemmas.{same_letter-Decides, same_letters-Decides}
use Rattle.instruction_set.proofs.laws.one_index.Goals as goal

pub returns-clause-letter : goal.returns-clause-letter
returns-clause-letter c = same_letter-Decides

pub returns-clause-list : goal.returns-clause-list
returns-clause-list c = same_letters-Decides
