use Rattle.std.proofs.Common.{◌≡◌}
use Rattle.thread_tests.proofs.banks.numbers.Given as goal

abbrev pub invariant-loop-letter : goal.invariant-loop-letter
invariant-loop-letter g l =
    (l.seat.bank ≡ l.initial.seat.bank) × (l.seat.share ≡ l.initial.seat.share)
