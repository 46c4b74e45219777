use Rattle.std.proofs.Common.{◌≡◌, ℕ, zero, suc, ◌+◌, ◌<◌, ◌-◌, ◌*◌, ◌/◌, ◌%◌, ◌^◌, List, [], ◌∷◌, ◌++◌, length, slice_index, bit_or, bit_xor, arith, refl, ap, sym, ◌∙◌}
use Rattle.std.specs.Simd.Lanes.{zip2, pick_l}
use Rattle.std.proofs.lemmas.Simd.{get_or-zip2}
use Rattle.rand_core.specs.Steps.{u32_at}
use Rattle.rand_chacha.specs.Block.{add32, xor_rotate, column_round, diagonal_round, initial_state}
use Rattle.rand_chacha.specs.ChaCha.{key_of}
use Rattle.random_streams.specs.RandomStream.{key_bytes}
use Rattle.random_streams.specs.Rows.{Rows, state_of, QuarterRounds}

-- what holds of each of the four lanes
below_four : (P : ℕ → Type 0) → P 0 → P 1 → P 2 → P 3 → (j : ℕ) → j < 4 → P j
below_four P p0 p1 p2 p3 zero h = p0
below_four P p0 p1 p2 p3 (suc zero) h = p1
below_four P p0 p1 p2 p3 (suc (suc zero)) h = p2
below_four P p0 p1 p2 p3 (suc (suc (suc zero))) h = p3
below_four P p0 p1 p2 p3 (suc (suc (suc (suc n)))) h = absurd (omega arith)

-- what holds of each row
each_row : (P : List ℕ → Type 0) → ((a b c d : ℕ) → P (a ∷ b ∷ c ∷ d ∷ []))
    → (xs : List ℕ) → length xs ≡ 4 → P xs
each_row P p (a ∷ b ∷ c ∷ d ∷ []) h = p a b c d
each_row P p _ h = absurd (omega arith)

-- two shifts of each lane and an or are a rotation
abbrev Rotates : ℕ → List ℕ → List ℕ → Type 0
Rotates k a b = (j : ℕ) → j < 4
    → slice_index (zip2 bit_or
    (zip2 (λ x n. x * 2 ^ n % 2 ^ 32) (zip2 bit_xor a b) (k ∷ k ∷ k ∷ k ∷ []))
    (zip2 (λ x n. x / 2 ^ n) (zip2 bit_xor a b) ((32 - k) ∷ (32 - k) ∷ (32 - k) ∷ (32 - k) ∷ []))) j
    ≡ xor_rotate (slice_index a j) (slice_index b j) k

pub shifts_rotate : (k : ℕ) → 0 < k → k < 32 → (a : List ℕ) → length a ≡ 4
    → (b : List ℕ) → length b ≡ 4 → Rotates k a b
shifts_rotate k low high =
    let left : k % 32 ≡ k = omega arith in
    let right : (32 - k) % 32 ≡ 32 - k = omega arith in
    each_row (λ a. (b : List ℕ) → length b ≡ 4 → Rotates k a b) (λ a0 a1 a2 a3.
    each_row (Rotates k (a0 ∷ a1 ∷ a2 ∷ a3 ∷ [])) (λ b0 b1 b2 b3.
    below_four _ (rw (left, right) refl) (rw (left, right) refl)
    (rw (left, right) refl) (rw (left, right) refl)))

-- quarter rounds on rows are those of a state's columns
columns : (x y : Rows) → QuarterRounds x y → state_of y ≡ column_round (state_of x)
unfolding column_round
columns x y quarters =
    rw (
      ← quarters 0 (omega arith),
      ← quarters 1 (omega arith),
      ← quarters 2 (omega arith),
      ← quarters 3 (omega arith),
    ) refl

-- the state whose columns are the diagonals of x
abbrev skewed : List ℕ → List ℕ
skewed x =
    slice_index x 0 ∷ slice_index x 1 ∷ slice_index x 2 ∷ slice_index x 3
    ∷ slice_index x 5 ∷ slice_index x 6 ∷ slice_index x 7 ∷ slice_index x 4
    ∷ slice_index x 10 ∷ slice_index x 11 ∷ slice_index x 8 ∷ slice_index x 9
    ∷ slice_index x 15 ∷ slice_index x 12 ∷ slice_index x 13 ∷ slice_index x 14 ∷ []

-- the state whose diagonals are the columns of x
abbrev unskewed : List ℕ → List ℕ
unskewed x =
    slice_index x 0 ∷ slice_index x 1 ∷ slice_index x 2 ∷ slice_index x 3
    ∷ slice_index x 7 ∷ slice_index x 4 ∷ slice_index x 5 ∷ slice_index x 6
    ∷ slice_index x 10 ∷ slice_index x 11 ∷ slice_index x 8 ∷ slice_index x 9
    ∷ slice_index x 13 ∷ slice_index x 14 ∷ slice_index x 15 ∷ slice_index x 12 ∷ []

-- a row of four words, rotated to the left
abbrev rotated : ℕ → List ℕ → List ℕ
rotated n xs = pick_l 0 (xs ++ xs) (n % 4 ∷ (n + 1) % 4 ∷ (n + 2) % 4 ∷ (n + 3) % 4 ∷ [])

-- the rows, rotated so that the diagonals stand in the columns
abbrev turned : Rows → Rows
turned x = (x.0, rotated 1 x.1, rotated 2 x.2, rotated 3 x.3)

-- and back
abbrev turned_back : Rows → Rows
turned_back x = (x.0, rotated 3 x.1, rotated 2 x.2, rotated 1 x.3)

-- the rows that are rotated have four words
abbrev HaveFour : Rows → Type 0
HaveFour x = (length x.1 ≡ 4) × (length x.2 ≡ 4) × (length x.3 ≡ 4)

-- what holds of each three rows
each_rows : (P : List ℕ → List ℕ → List ℕ → Type 0)
    → ((b0 b1 b2 b3 c0 c1 c2 c3 d0 d1 d2 d3 : ℕ)
    → P (b0 ∷ b1 ∷ b2 ∷ b3 ∷ []) (c0 ∷ c1 ∷ c2 ∷ c3 ∷ []) (d0 ∷ d1 ∷ d2 ∷ d3 ∷ []))
    → (b c d : List ℕ) → length b ≡ 4 → length c ≡ 4 → length d ≡ 4 → P b c d
each_rows P p b c d b-row c-row d-row =
    each_row (λ b. P b c d) (λ b0 b1 b2 b3.
    each_row (λ c. P (b0 ∷ b1 ∷ b2 ∷ b3 ∷ []) c d) (λ c0 c1 c2 c3.
    each_row (P (b0 ∷ b1 ∷ b2 ∷ b3 ∷ []) (c0 ∷ c1 ∷ c2 ∷ c3 ∷ [])) (λ d0 d1 d2 d3.
    p b0 b1 b2 b3 c0 c1 c2 c3 d0 d1 d2 d3)
    d d-row) c c-row) b b-row

-- the state of rotated rows
state_of-turned : (x : Rows) → HaveFour x → state_of (turned x) ≡ skewed (state_of x)
state_of-turned x four =
    each_rows (λ b c d. state_of (turned (x.0, b, c, d)) ≡ skewed (state_of (x.0, b, c, d)))
    (λ _ _ _ _ _ _ _ _ _ _ _ _. refl) x.1 x.2 x.3 four.0 four.1 four.2

-- and of rows that are rotated back
state_of-turned_back : (x : Rows) → HaveFour x
    → state_of (turned_back x) ≡ unskewed (state_of x)
state_of-turned_back x four =
    each_rows (λ b c d. state_of (turned_back (x.0, b, c, d)) ≡ unskewed (state_of (x.0, b, c, d)))
    (λ _ _ _ _ _ _ _ _ _ _ _ _. refl) x.1 x.2 x.3 four.0 four.1 four.2

-- the quarter rounds of the diagonals are those of the columns of the skewed state
diagonals : (x : List ℕ) → diagonal_round x ≡ unskewed (column_round (skewed x))
unfolding diagonal_round column_round
diagonals x = refl

-- a round on rows, and one on the rotated rows, are a double round
pub rounds : (x y z : Rows) → HaveFour y → HaveFour z
    → QuarterRounds x y → QuarterRounds (turned y) z
    → state_of (turned_back z) ≡ diagonal_round (column_round (state_of x))
rounds x y z y-four z-four straight diagonal =
    state_of-turned_back z z-four
    ∙ ap unskewed (columns (turned y) z diagonal ∙ ap column_round (state_of-turned y y-four))
    ∙ sym (diagonals (state_of y))
    ∙ ap diagonal_round (columns x y straight)

-- the rows of the first state, by the words of seed, counter and stream
abbrev pub first_rows : ℕ → ℕ → ℕ → ℕ → ℕ → ℕ → Rows
first_rows seed₀ seed₁ counter₀ counter₁ stream₀ stream₁ = (
  0x61707865 ∷ 0x3320646e ∷ 0x79622d32 ∷ 0x6b206574 ∷ [],
  seed₀ ∷ seed₁ ∷ 0 ∷ 0 ∷ [],
  0 ∷ 0 ∷ 0 ∷ 0 ∷ [],
  counter₀ ∷ counter₁ ∷ stream₀ ∷ stream₁ ∷ [],
)

-- they are the first state of the seed's key
pub first_state : (seed counter stream : ℕ) → seed < 2 ^ 64
    → state_of (first_rows (seed % 2 ^ 32) (seed / 2 ^ 32) (counter % 2 ^ 32) (counter / 2 ^ 32) (stream % 2 ^ 32) (stream / 2 ^ 32))
    ≡ initial_state (key_of (key_bytes seed)) counter stream
unfolding u32_at
first_state seed counter stream fits =
    let low : u32_at (key_bytes seed) 0 ≡ seed % 2 ^ 32 = omega arith in
    let high : u32_at (key_bytes seed) 1 ≡ seed / 2 ^ 32 = omega arith in
    rw (low, high) refl

-- the sum of two rows
abbrev IsSum : List ℕ → List ℕ → List ℕ → Type 0
IsSum s x y = (j : ℕ) → j < 4 → slice_index s j ≡ add32 (slice_index x j) (slice_index y j)

-- the sums of rows are the sums of the states' words
sum_state : (s x y : Rows) → IsSum s.0 x.0 y.0 → IsSum s.1 x.1 y.1 → IsSum s.2 x.2 y.2
    → IsSum s.3 x.3 y.3 → state_of s ≡ zip2 add32 (state_of x) (state_of y)
sum_state s x y a b c d =
    let l0 : 0 < 4 = omega arith in
    let l1 : 1 < 4 = omega arith in
    let l2 : 2 < 4 = omega arith in
    let l3 : 3 < 4 = omega arith in
    rw (a 0 l0, a 1 l1, a 2 l2, a 3 l3, b 0 l0, b 1 l1, b 2 l2, b 3 l3)
    (rw (c 0 l0, c 1 l1, c 2 l2, c 3 l3, d 0 l0, d 1 l1, d 2 l2, d 3 l3) refl)

-- a word of the sum
pub sum_word : (s x y : Rows) → IsSum s.0 x.0 y.0 → IsSum s.1 x.1 y.1 → IsSum s.2 x.2 y.2
    → IsSum s.3 x.3 y.3 → (k : ℕ) → k < 16
    → slice_index (state_of s) k ≡ add32 (slice_index (state_of x) k) (slice_index (state_of y) k)
sum_word s x y a b c d k below =
    ap (λ words. slice_index words k) (sum_state s x y a b c d)
    ∙ get_or-zip2 add32 (state_of x) (state_of y) k 0 0 0 below below
