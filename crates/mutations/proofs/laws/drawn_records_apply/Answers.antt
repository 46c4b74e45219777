use Rattle.mutations.proofs.LawLemmas.{origin_of-applies}
use Rattle.mutations.proofs.laws.drawn_records_apply.Goals as goal

pub returns : goal.returns
returns c = λ words k rates limits clean written parent fits.
    origin_of-applies c.one_index.ensures.letter words fits k rates limits clean written parent
