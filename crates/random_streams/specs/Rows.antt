-- The state of ChaCha as four rows of four words, which the code computes with.
use Rattle.std.specs.Prelude.{◌≡◌, ℕ, ◌<◌, List, [], ◌∷◌, slice_index}
use Rattle.rand_chacha.specs.Block.{quarter_round}

-- four rows
abbrev pub Rows : Type 0
Rows = List ℕ × List ℕ × List ℕ × List ℕ

-- the sixteen words of four rows
abbrev pub state_of : Rows → List ℕ
state_of x =
    slice_index x.0 0 ∷ slice_index x.0 1 ∷ slice_index x.0 2 ∷ slice_index x.0 3
    ∷ slice_index x.1 0 ∷ slice_index x.1 1 ∷ slice_index x.1 2 ∷ slice_index x.1 3
    ∷ slice_index x.2 0 ∷ slice_index x.2 1 ∷ slice_index x.2 2 ∷ slice_index x.2 3
    ∷ slice_index x.3 0 ∷ slice_index x.3 1 ∷ slice_index x.3 2 ∷ slice_index x.3 3 ∷ []

-- column j of y is the quarter round of column j of x
abbrev pub QuarterRounds : Rows → Rows → Type 0
QuarterRounds x y = (j : ℕ) → j < 4
    → (slice_index y.0 j, slice_index y.1 j, slice_index y.2 j, slice_index y.3 j)
    ≡ quarter_round (slice_index x.0 j) (slice_index x.1 j) (slice_index x.2 j) (slice_index x.3 j)
