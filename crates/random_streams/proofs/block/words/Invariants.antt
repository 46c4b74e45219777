use Rattle.std.proofs.Common.{◌≡◌}
use Rattle.rand_chacha.specs.Block.{double_rounds}
use Rattle.random_streams.specs.Rows.{state_of}
use Rattle.random_streams.proofs.block.words.Given as goal

abbrev pub invariant-rounds : goal.invariant-rounds
invariant-rounds l =
    state_of (l.a, l.b, l.c, l.d) ≡ double_rounds l._round (state_of (l.a0, l.b0, l.c0, l.d0))
