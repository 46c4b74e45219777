use Rattle.std.proofs.Common.{◌≡◌}
use Rattle.genotype_bank.proofs.bank.Bank.wait_for_turn.Given as goal

abbrev pub invariant-loop : goal.invariant-loop
invariant-loop g l = record {
  bank : l.pass.table_id ≡ l.initial.pass.table_id;
  seat : l.pass.id ≡ l.initial.pass.id;
  me : l.pass.me ≡ l.initial.pass.me;
}
