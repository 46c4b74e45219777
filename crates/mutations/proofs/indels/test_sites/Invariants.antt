use Rattle.std.proofs.Common.{◌+◌, ◌-◌, ◌*◌, ◌≤◌, drop, length}
use Rattle.mutations.proofs.Prelude.{word_of, indels_from, test_range, Fits}
use Rattle.mutations.proofs.IndelPasses.{IndelsLeft}
use Rattle.mutations.proofs.indels.test_sites.Given as goal

abbrev pub invariant-loop-tested : goal.invariant-loop-tested
invariant-loop-tested l = record {
  walk : IndelsLeft l.test (indels_from l.test (word_of l.initial.draws) (length l.text)
      (record { place = 0; word = l.initial.draws.taken }))
      (record { text = l.text; changes = l.initial.changes; draws = l.initial.draws })
      (record { text = l.made.items; changes = l.changes; draws = l.draws })
      (drop l.tested l.text);
  fits : Fits (test_range l.test) (length l.made.items + (length l.text - l.tested));
  most : l.draws.taken ≤ l.initial.draws.taken + 2 * l.tested;
}
