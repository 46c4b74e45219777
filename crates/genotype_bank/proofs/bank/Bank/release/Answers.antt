use Rattle.std.proofs.Common.{rules, sym, ap, ◌∙◌, ◌++◌, ◌∷◌, []}
use Rattle.genotype_bank.proofs.Prelude.{entry, genotypes_of, call_in, last_drawn_number}
use Rattle.genotype_bank.proofs.TurnLemmas.{releases}
use Rattle.genotype_bank.proofs.bank.Bank.release.Goals as goal

pub fetch_add-requires : goal.fetch_add-requires
fetch_add-requires c =
    let back = c.requires.back in
    let turn = c.requires.turn in
    let m = c.args.pass.now.me in (
      search rules,
      search rules,
      releases _ _ _ back.0 back.1 turn.0 turn.1
          (back.2 ∙ ap (λ call. genotypes_of (m.0.seen ++ entry (last_drawn_number m.0) call ∷ []))
          (sym (ap call_in back.1))),
    )
