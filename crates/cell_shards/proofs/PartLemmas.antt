-- Cells that lie side by side, in two parts.
use Rattle.std.proofs.Common.{◌≡◌, ◌∙◌, ap, refl, sym, ℕ, zero, suc, ◌+◌, ◌-◌, ◌<◌, Option, None, List, [], ◌∷◌, ◌++◌, length, map, get_or, arith, add-zero, append-nil, append_assoc, length-append}
use Rattle.cell_shards.proofs.Prelude.{range_with_len, enumerate_from, flat_map, get_or_append_left, get_or-append_right, length-map-range_with_len, map-range_with_len_more, OrganismState, OrganismLife, RoundNumbers, part_from, shard_life_at, shard_life_of, shard_lives_of}
use Rattle.std.proofs.lemmas.Grind.{flat_map-append}

-- two lists, numbered one after the other
enumerate_from-append : {X : Type 0} (k : ℕ) (xs ys : List X)
    → enumerate_from k (xs ++ ys) ≡ enumerate_from k xs ++ enumerate_from (k + length xs) ys
enumerate_from-append k [] ys = ap (λ (n : ℕ). enumerate_from n ys) (sym (add-zero k))
enumerate_from-append k (x ∷ xs) ys =
    let next : k + 1 + length xs ≡ k + suc (length xs) = omega arith in
    rw (enumerate_from-append (k + 1) xs ys, next)

module _ {X : Type 0} (told : ℕ × OrganismLife → List X) where
  -- what is told of these lives, whose cells go on from the first one
  abbrev all_told : ℕ → List OrganismLife → List X
  all_told first lives = flat_map told (enumerate_from first lives)

  -- what is told of two parts
  pub told-append : (first : ℕ) (lives more : List OrganismLife) → all_told first (lives ++ more)
      ≡ all_told first lives ++ all_told (first + length lives) more
  told-append first lives more =
      ap (flat_map told) (enumerate_from-append first lives more)
      ∙ flat_map-append told (enumerate_from first lives)
      (enumerate_from (first + length lives) more)

  -- what is told with one more cell
  pub told-push : (first : ℕ) (lives : List OrganismLife) (l : OrganismLife) (cell : ℕ)
      → first + length lives ≡ cell
      → all_told first (lives ++ l ∷ []) ≡ all_told first lives ++ told (cell, l)
  told-push first lives l cell place =
      rw (told-append first lives (l ∷ []), append-nil (told (first + length lives, l)), place)

-- functions that agree on two ranges
map_range-agree : {X : Type 0} (f g : ℕ → X) (a b n : ℕ) → ((k : ℕ) → k < n → f (a + k) ≡ g (b + k))
    → map f (range_with_len a n) ≡ map g (range_with_len b n)
map_range-agree f g a b zero agree = refl
map_range-agree f g a b (suc n) agree =
    let here : f a ≡ g b = ap f (sym (add-zero a)) ∙ agree 0 (omega arith) ∙ ap g (add-zero b) in
    let next : (x k : ℕ) → x + 1 + k ≡ x + (k + 1) = λ x k. omega arith in
    let rest = map_range-agree f g (a + 1) (b + 1) n
    (λ k below. ap f (next a k) ∙ agree (k + 1) (omega arith) ∙ ap g (sym (next b k))) in
    λ i. here i ∷ rest i

-- a range in two parts
map_range-split : {X : Type 0} (f : ℕ → X) (a n m : ℕ)
    → map f (range_with_len a (n + m)) ≡ map f (range_with_len a n)
    ++ map f (range_with_len (a + n) m)
map_range-split f a n zero = ap (λ (k : ℕ). map f (range_with_len a k)) (add-zero n)
    ∙ sym (append-nil (map f (range_with_len a n)))
map_range-split f a n (suc m) =
    let front = map f (range_with_len a n) in
    let last = a + (n + m) in
    let more : n + suc m ≡ n + m + 1 = omega arith in
    let one : m + 1 ≡ suc m = omega arith in
    ap (λ (k : ℕ). map f (range_with_len a k)) more
    ∙ map-range_with_len_more f a (n + m) last refl
    ∙ ap (λ xs. xs ++ f last ∷ []) (map_range-split f a n m)
    ∙ append_assoc front (map f (range_with_len (a + n) m)) (f last ∷ [])
    ∙ ap (λ xs. front ++ xs) (sym (map-range_with_len_more f (a + n) m last (omega arith)))
    ∙ ap (λ (k : ℕ). front ++ map f (range_with_len (a + n) k)) one

-- the lives of two parts
pub lives_of-append : (round : RoundNumbers) (first : ℕ)
    (cells others : List (Option OrganismState)) (slices more : List ℕ)
    → length slices ≡ length cells
    → shard_lives_of round (part_from first (cells ++ others) (slices ++ more))
    ≡ shard_lives_of round (part_from first cells slices)
    ++ shard_lives_of round (part_from (first + length cells) others more)
unfolding shard_lives_of
lives_of-append round first cells others slices more same =
    let whole = shard_life_at round (part_from first (cells ++ others) (slices ++ more)) in
    let front = shard_life_at round (part_from first cells slices) in
    let back = shard_life_at round (part_from (first + length cells) others more) in
    let n = length cells in
    let m = length others in
    let left : map whole (range_with_len 0 n) ≡ map front (range_with_len 0 n) =
    map_range-agree whole front 0 0 n (λ k below.
    let steps = get_or_append_left slices more 0 (0 + k) (omega (arith, below, same)) in
    let slot = get_or_append_left cells others None (0 + k) (omega (arith, below)) in
    λ i. shard_life_of round (first + (0 + k)) (steps i) (slot i)) in
    let right : map whole (range_with_len (0 + n) m) ≡ map back (range_with_len 0 m) =
    map_range-agree whole back (0 + n) 0 m (λ k below.
    let place : first + (0 + n + k) ≡ first + n + (0 + k) = omega arith in
    let from : 0 + n + k - n ≡ 0 + k = omega arith in
    let steps = get_or-append_right slices more n (0 + n + k) 0 same (omega arith)
    ∙ ap (λ (j : ℕ). get_or more j 0) from in
    let slot = get_or-append_right cells others n (0 + n + k) None refl (omega arith)
    ∙ ap (λ (j : ℕ). get_or others j None) from in
    λ i. shard_life_of round (place i) (steps i) (slot i)) in
    rw (length-append cells others, map_range-split whole 0 n m, left, right)

-- there is a life for each cell
pub length-lives_of : (round : RoundNumbers) (first : ℕ) (cells : List (Option OrganismState))
    (slices : List ℕ) → length (shard_lives_of round (part_from first cells slices)) ≡ length cells
unfolding shard_lives_of
length-lives_of round first cells slices =
    length-map-range_with_len (shard_life_at round (part_from first cells slices)) 0 (length cells)
