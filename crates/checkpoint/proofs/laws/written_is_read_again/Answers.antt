use Rattle.checkpoint.proofs.BackLemmas.{read_back}
use Rattle.checkpoint.proofs.laws.written_is_read_again.Goals as goal

pub returns : goal.returns
returns c = λ state is. read_back c.one_spelling.ensures c.images_are_whole.ensures state is
