use Rattle.std.proofs.Common.{ℕ, ◌<◌, ◌^◌, lit<}
use Rattle.std.proofs.Math.Nat.{mod-lt}
use Rattle.rand_chacha.specs.Block.{block_word}
use Rattle.random_streams.specs.declared.purpose.Purpose.{Purpose}
use Rattle.random_streams.specs.RandomStream.{draw}
use Rattle.random_streams.proofs.laws.words_fit.Goals as goal

-- a word is a sum without its carry
draw-fits : (seed update cell : ℕ) (purpose : Purpose) (k : ℕ)
    → draw seed update cell purpose k < 2 ^ 32
unfolding draw block_word
draw-fits seed update cell purpose k = mod-lt _ (lit< tt)

pub returns : goal.returns
returns c = draw-fits
