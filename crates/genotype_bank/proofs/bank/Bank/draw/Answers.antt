use Rattle.std.proofs.Common.{rules}
use Rattle.genotype_bank.proofs.TurnLemmas.{draws}
use Rattle.genotype_bank.proofs.bank.Bank.draw.Goals as goal

pub fetch_add-requires : goal.fetch_add-requires
fetch_add-requires c =
    (search rules, search rules, draws _ _ _ c.requires.idle.0 c.requires.idle.1 c.requires.idle.2)
