use Rattle.std.proofs.Common.{◌≡◌, refl, ap, ap₂, ◌∙◌, slice_index, add-one, arith, rules}
use Rattle.rand_chacha.specs.Block.{add32, column_round, diagonal_round, double_rounds, block_word, initial_state}
use Rattle.rand_chacha.specs.ChaCha.{key_of}
use Rattle.random_streams.specs.RandomStream.{key_bytes}
use Rattle.random_streams.specs.Rows.{Rows, state_of}
use Rattle.random_streams.proofs.RowLemmas.{first_rows, first_state, sum_word}
use Rattle.random_streams.proofs.block.words.Goals as goal

pub rounds-init : goal.rounds-init
unfolding double_rounds
rounds-init c = refl

pub rounds-preserved : goal.rounds-preserved
unfolding double_rounds
rounds-preserved c =
    rw add-one (c.double_round.ensures
    ∙ ap (λ x. diagonal_round (column_round x)) c.rounds.invariant)

pub returns : goal.returns
unfolding block_word
returns c k below =
    let args = c.args in
    let begun : Rows = first_rows c.low.result c.high.result c.low-2.result c.high-2.result c.low-3.result c.high-3.result in
    let first : state_of begun ≡ initial_state (key_of (key_bytes args.seed)) args.counter args.stream =
    rw (
      c.low.ensures,
      c.high.ensures,
      c.low-2.ensures,
      c.high-2.ensures,
      c.low-3.ensures,
      c.high-3.ensures,
    ) (first_state args.seed args.counter args.stream (search rules)) in
    let done : c.rounds._round ≡ 4 = omega arith in
    sum_word (c.add.result, c.add-2.result, c.add-3.result, c.add-4.result)
    (c.rounds.a, c.rounds.b, c.rounds.c, c.rounds.d) begun
    c.add.ensures c.add-2.ensures c.add-3.ensures c.add-4.ensures k below
    ∙ ap₂ (λ x y. add32 (slice_index x k) (slice_index y k))
    (c.rounds.invariant ∙ ap₂ double_rounds done first) first
