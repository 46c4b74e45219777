use Rattle.std.proofs.Common.{rules}
use Rattle.genotype_bank.proofs.TurnLemmas.{serves}
use Rattle.genotype_bank.proofs.bank.Bank.look.Goals as goal

pub load-requires : goal.load-requires
load-requires c =
    let w = c.requires.waits in
    (search rules, search rules, serves _ _ _ w.2.0 w.2.1 w.1 w.0)
