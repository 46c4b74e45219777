use Rattle.mutations.proofs.FormLemmas.{origin_of-form}
use Rattle.mutations.proofs.laws.drawn_records_have_form.Goals as goal

pub returns : goal.returns
returns c = λ words k rates limits clean written parent fits.
    origin_of-form c.one_index.ensures.letter words fits k rates limits clean written parent
