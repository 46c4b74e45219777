use Rattle.std.proofs.Common.{subst}
use Rattle.saved_worlds.proofs.Prelude.{ReadsSaved}
use Rattle.saved_worlds.proofs.ReadsSavedLemmas.{reads_one_saved, saved_is_read}
use Rattle.saved_worlds.proofs.laws.one_answer.Goals as goal

pub returns : goal.returns
returns c bytes answer =
    (reads_one_saved bytes answer, λ is. subst (ReadsSaved bytes) is (saved_is_read bytes))
