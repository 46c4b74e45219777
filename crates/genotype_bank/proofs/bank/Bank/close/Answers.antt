use Rattle.std.proofs.Common.{rules, sym, ap, ◌∙◌, subst, ◌≡◌, IfOk, Some, None, Option, List, [], map}
use Rattle.genotype_bank.proofs.Prelude.{some-injective, letters, Letter, genotypes_of, genomes_in, Catalog}
use Rattle.genotype_bank.proofs.SeatLemmas.{closes}
use Rattle.genotype_bank.proofs.bank.Bank.close.Goals as goal

abbrev genomes_at : Option Catalog → List (List Letter)
genomes_at None = []
genomes_at (Some catalog) = genomes_in catalog

pub unwrap-genomes-requires : goal.unwrap-genomes-requires
unwrap-genomes-requires c =
    let lies = closes _ c.seat.inside.pass.me.0 _ _
    (ap (λ s. s.share) c.seat.view_is ∙ c.requires.whole)
    (ap (λ m. m.0.holding) c.seat.invariant.idle) c.close_with-closed.ensures.values.2 in
    let is = some-injective _ _ (sym c.take-catalog.ensures.value ∙ lies.1) in
    search (rules, is)

pub returns-clause-all : goal.returns-clause-all
returns-clause-all c =
    let lies = closes _ c.seat.inside.pass.me.0 _ _
    (ap (λ s. s.share) c.seat.view_is ∙ c.requires.whole)
    (ap (λ m. m.0.holding) c.seat.invariant.idle) c.close_with-closed.ensures.values.2 in
    let is = some-injective _ _ (sym c.take-catalog.ensures.value ∙ lies.1) in
    let all = ap genomes_at (sym c.unwrap-genomes.ensures ∙ is)
    ∙ (lies.2 ∙ ap (λ s. genotypes_of s.seen) c.seat.view_is) in
    subst (λ genotypes. IfOk c.unpack_all.result (λ genomes. map letters genomes ≡ genotypes)) all
    c.unpack_all.ensures
