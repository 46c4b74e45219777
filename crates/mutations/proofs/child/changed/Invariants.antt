use Rattle.std.proofs.Common.{◌≡◌, ◌+◌, drop}
use Rattle.mutations.proofs.Prelude.{IsGenome, text_after}
use Rattle.mutations.proofs.child.changed.Given as goal

abbrev pub invariant-loop-before : goal.invariant-loop-before
invariant-loop-before l = record {
  genome : IsGenome l.text.items;
  rest : text_after (l.before + 1) (drop l.before l.changes) l.text.items
      ≡ text_after 1 l.changes l.base;
}
