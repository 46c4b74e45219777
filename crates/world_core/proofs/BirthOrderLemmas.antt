-- The newborns of an update, in the order of their cells.
use Rattle.std.proofs.Common.{◌≡◌, ◌^◌, ℕ, suc, ◌+◌, ◌-◌, ◌<◌, ◌≤◌, Some, None, Option, List, [], ◌∷◌, ◌++◌, length, map, sum, get_or, arith, refl, ap, subst, inl, inr}
use Rattle.world_core.proofs.Prelude.{All, flat_map, enumerate_from, IsNonDecreasing, cases_lt, get_or-map, map-append, length-map, length-append, get_or_append_left, get_or-append_right, All-nil, All-append, All-map, sum_by-cons, NewbornValue, ConfigValues, Occupant, CellLife, no_life, Delivery, delivery_of, births_by, births_in, births_of, IsDelivery}

-- a map after a map
pub map-both : {A B C : Type 0} (f : A → B) (g : B → C) (xs : List A)
    → map g (map f xs) ≡ map (λ x. g (f x)) xs
map-both f g [] = refl
map-both f g (x ∷ xs) = ap (λ rest. g (f x) ∷ rest) (map-both f g xs)

-- what is true of each value is true of each by its value
pub All-unmap : {X Y : Type 0} (P : Y → Type 0) (f : X → Y) (xs : List X) → All P (map f xs)
    → All (λ x. P (f x)) xs
All-unmap P f xs all k d within =
    subst P (get_or-map f xs k d (f d) within)
    (all k (f d) (omega (arith, within, length-map xs f)))

-- lists that do not fall, the second above the first, make one that does not
nondecreasing-append : (xs ys : List ℕ) (n : ℕ) → IsNonDecreasing xs → IsNonDecreasing ys
    → All (λ x. x ≤ n) xs → All (λ y. n ≤ y) ys → IsNonDecreasing (xs ++ ys)
nondecreasing-append xs ys n rise climb low high i j d upward within =
    let all : length (xs ++ ys) ≡ length xs + length ys = length-append xs ys in
    elim (cases_lt j (length xs)) [
      | inl left ↦
          let a = get_or_append_left xs ys d i (omega arith) in
          let b = get_or_append_left xs ys d j left in
          omega (arith, a, b, rise i j d upward left)
      | inr right ↦
          let b = get_or-append_right xs ys (length xs) j d refl right in
          elim (cases_lt i (length xs)) [
            | inl left ↦
                let a = get_or_append_left xs ys d i left in
                omega (arith, a, b, low i d left, high (j - length xs) d (omega arith))
            | inr beyond ↦
                let a = get_or-append_right xs ys (length xs) i d refl beyond in
                omega (
                  arith,
                  a,
                  b,
                  climb (i - length xs) (j - length xs) d (omega arith)
                      (omega arith),
                )
          ]
    ]

-- a list of one number does not fall
nondecreasing-level : (xs : List ℕ) (n : ℕ) → All (λ x. x ≡ n) xs → IsNonDecreasing xs
nondecreasing-level xs n level i j d upward within =
    omega (arith, level i d (omega arith), level j d within)

-- the cells of some births
abbrev pub cells_of : List Delivery → List ℕ
cells_of births = map (λ d. d.cell) births

-- the newborns of a life stand in one cell
cells_of-births_by : (cell : ℕ) (newborns : List NewbornValue) (slot : Option Occupant)
    → All (λ x. x ≡ cell) (cells_of (births_by cell newborns slot))
cells_of-births_by cell newborns None = All-nil (λ x. x ≡ cell)
cells_of-births_by cell newborns (Some o) =
    All-map (λ x. x ≡ cell) (λ (d : Delivery). d.cell) (map (delivery_of cell o.id) newborns)
    (All-map (λ (d : Delivery). d.cell ≡ cell) (delivery_of cell o.id) newborns
    (λ k d within. refl))

-- the births of the cells from one on
abbrev pub births_from : ℕ → List CellLife → List Delivery
births_from k lives = flat_map births_in (enumerate_from k lives)

-- their cells, the first of which come first
cells_of-from : (k : ℕ) (l : CellLife) (ls : List CellLife)
    → cells_of (births_from k (l ∷ ls)) ≡ cells_of (births_in (k, l))
    ++ cells_of (births_from (k + 1) ls)
cells_of-from k l ls =
    map-append (λ (d : Delivery). d.cell) (births_in (k, l)) (births_from (k + 1) ls)

-- no newborn of these cells stands below them
births_from-above : (k : ℕ) (lives : List CellLife)
    → All (λ x. k ≤ x) (cells_of (births_from k lives))
births_from-above k [] = All-nil (λ x. k ≤ x)
births_from-above k (l ∷ ls) =
    rw (cells_of-from k l ls)
    (All-append (λ x. k ≤ x) (cells_of (births_in (k, l))) (cells_of (births_from (k + 1) ls))
    (λ i d within. omega (arith, cells_of-births_by k l.newborns l.occupant i d within))
    (λ i d within. omega (arith, births_from-above (k + 1) ls i d within)))

-- their cells never fall
births_from-rise : (k : ℕ) (lives : List CellLife)
    → IsNonDecreasing (cells_of (births_from k lives))
births_from-rise k [] = nondecreasing-level [] k (All-nil (λ x. x ≡ k))
births_from-rise k (l ∷ ls) =
    let one = cells_of-births_by k l.newborns l.occupant in
    rw (cells_of-from k l ls)
    (nondecreasing-append (cells_of (births_in (k, l))) (cells_of (births_from (k + 1) ls)) (k + 1)
    (nondecreasing-level (cells_of (births_in (k, l))) k one) (births_from-rise (k + 1) ls)
    (λ i d within. omega (arith, one i d within)) (births_from-above (k + 1) ls))

-- births are in the order of their cells
pub births_of-rise : (lives : List CellLife) → IsNonDecreasing (cells_of (births_of lives))
unfolding births_of
births_of-rise lives = births_from-rise 0 lives

-- a newborn that fits its machine
pub record FitsMachine (config : ConfigValues) (newborn : NewbornValue) : Type 0 where
  pub genome : length newborn.genome ≤ config.rules.greatest
  pub merit : newborn.merit ≤ 2 ^ 38

-- a newborn that fits is a delivery of its cell
births_by-fit : (config : ConfigValues) (cells n : ℕ) (newborns : List NewbornValue)
    (slot : Option Occupant) → n < cells → All (FitsMachine config) newborns
    → All (IsDelivery config cells) (births_by n newborns slot)
births_by-fit config cells n newborns None within fit = All-nil (IsDelivery config cells)
births_by-fit config cells n newborns (Some o) within fit =
    All-map (IsDelivery config cells) (delivery_of n o.id) newborns
    (λ k d h. record { cell = within; genome = (fit k d h).genome; merit = (fit k d h).merit })

-- nobody else is born
births_by-few : (n : ℕ) (newborns : List NewbornValue) (slot : Option Occupant)
    → length (births_by n newborns slot) ≤ length newborns
births_by-few n newborns None = omega arith
births_by-few n newborns (Some o) = omega (arith, length-map newborns (delivery_of n o.id))

-- the newborns of cells that lie in the world are deliveries
pub births_from-fit : (config : ConfigValues) (cells first : ℕ) (lives : List CellLife)
    → first + length lives ≤ cells
    → ((place : ℕ) → All (FitsMachine config) (get_or lives place no_life).newborns)
    → All (IsDelivery config cells) (births_from first lives)
births_from-fit config cells first [] within fit = All-nil (IsDelivery config cells)
births_from-fit config cells first (l ∷ lives) within fit =
    All-append (IsDelivery config cells) (births_in (first, l)) (births_from (first + 1) lives)
    (births_by-fit config cells first l.newborns l.occupant (omega (arith, within)) (fit 0))
    (births_from-fit config cells (first + 1) lives (omega (arith, within))
    (λ place. fit (suc place)))

-- they are no more than the steps of the cells
pub births_from-few : (first : ℕ) (lives : List CellLife) (slices : List ℕ)
    → length slices ≡ length lives
    → ((place : ℕ) → length (get_or lives place no_life).newborns ≤ get_or slices place 0)
    → length (births_from first lives) ≤ sum slices
births_from-few first [] slices long few = omega arith
births_from-few first (l ∷ lives) [] long few = absurd (omega (arith, long))
births_from-few first (l ∷ lives) (steps ∷ slices) long few =
    omega (
      arith,
      births_from-few (first + 1) lives slices (omega (arith, long))
          (λ place. few (suc place)),
      few 0,
      births_by-few first l.newborns l.occupant,
      length-append (births_in (first, l)) (births_from (first + 1) lives),
      sum_by-cons (λ (x : ℕ). x) steps slices,
    )

-- as deliveries of an update
pub births_of-fit : (config : ConfigValues) (cells : ℕ) (lives : List CellLife)
    → length lives ≡ cells → ((place : ℕ)
    → All (FitsMachine config) (get_or lives place no_life).newborns)
    → All (IsDelivery config cells) (births_of lives)
unfolding births_of
births_of-fit config cells lives long fit =
    births_from-fit config cells 0 lives (omega (arith, long)) fit

-- there are no more newborns than steps
pub births_of-few : (lives : List CellLife) (slices : List ℕ) → length slices ≡ length lives
    → ((place : ℕ) → length (get_or lives place no_life).newborns ≤ get_or slices place 0)
    → length (births_of lives) ≤ sum slices
unfolding births_of
births_of-few lives slices long few = births_from-few 0 lives slices long few
