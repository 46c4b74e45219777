use Rattle.std.proofs.Common.{rules, sym, ap, ◌∙◌, ◌∷◌, Some}
use Rattle.genotype_bank.proofs.Prelude.{rest}
use Rattle.genotype_bank.proofs.bank.Bank.take.Goals as goal

pub exchange-requires : goal.exchange-requires
exchange-requires c =
    let x = c.requires.out in
    (search rules, (Some x.0, x.1 ∙ ap (λ l. (0, Some x.0) ∷ rest l) (sym x.1)))
