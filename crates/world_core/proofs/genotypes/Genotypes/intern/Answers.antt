use Rattle.std.proofs.Common.{◌∙◌, ap, rules, sym, length}
use Rattle.world_core.proofs.Prelude.{letters, with_genome}
use Rattle.world_core.proofs.GenotypeLemmas.{genotypes-counted, genotypes-different}
use Rattle.world_core.proofs.genotypes.Genotypes.intern.Goals as goal

pub invariant_of-self : goal.invariant_of-self
invariant_of-self g c =
    let turn = c.in_err-handle.ensures in (
      turn.kept.0 ∙ c.self.invariant.0,
      turn.kept.1 ∙ c.self.invariant.1,
      c.self.invariant.2
          ∙ ap length (sym (turn.alone c.self.invariant.1)),
    )

pub returns-in_err-handle-clause-err : goal.returns-in_err-handle-clause-err
returns-in_err-handle-clause-err g c =
    let same = c.in_err-handle.ensures.alone c.self.invariant.1 ∙ c.self.view_is in
    search (rules, same)

pub returns-in_err-handle-clause-different : goal.returns-in_err-handle-clause-different
returns-in_err-handle-clause-different g c =
    genotypes-different c.numbers_agree.ensures c.intern.new.seat.seen

pub invariant_of-self-2 : goal.invariant_of-self-2
invariant_of-self-2 g c =
    let turn = c.in_ok-handle.ensures in (
      turn.kept.0 ∙ c.self.invariant.0,
      turn.kept.1 ∙ c.self.invariant.1,
      genotypes-counted c.calls_number_genotypes.ensures.count c.self.inside.seat
          c.intern.new.seat (letters c.args.genome) c.in_ok-handle.handle.number c.self.inside.len _
          (turn.alone c.self.invariant.1) turn.number c.self.invariant.2
          c.len_with-self-inside.ensures,
    )

pub returns-clause-ok : goal.returns-clause-ok
returns-clause-ok g c =
    c.in_ok-handle.ensures.alone c.self.invariant.1
    ∙ ap (λ genomes. with_genome genomes (letters c.args.genome)) c.self.view_is

pub returns-clause-different : goal.returns-clause-different
returns-clause-different g c = genotypes-different c.numbers_agree.ensures c.intern.new.seat.seen
