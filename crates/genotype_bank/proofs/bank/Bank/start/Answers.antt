use Rattle.std.proofs.Common.{sym, ap, ◌∙◌, subst, List, [], ◌∷◌, ◌++◌, Some, None, Option}
use Rattle.genotype_bank.proofs.Prelude.{opening, Catalog, IsBankTable, letters_in, first_view}
use Rattle.genotype_bank.proofs.SeatLemmas.{begins}
use Rattle.genotype_bank.proofs.bank.Bank.start.Goals as goal

pub new-requires : goal.new-requires
new-requires c =
    let d : Catalog = record { genomes = c.new-genomes.result; last = None } in
    subst (λ (l : List (Option Catalog)). IsBankTable (opening (0 ∷ 0 ∷ []) l first_view))
    (sym (c.push_reserved.ensures.items
    ∙ ap (λ l. l ++ Some d ∷ []) (c.in_ok-slots.ensures.items)))
    (begins d (ap letters_in c.new-genomes.ensures.empty))
