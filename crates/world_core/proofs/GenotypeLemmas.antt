-- A whole seat that interns more genomes.
use Rattle.std.proofs.Common.{◌≡◌, ◌∙◌, refl, sym, ap, ℕ, zero, suc, ◌+◌, ◌<◌, ◌≤◌, cond, List, [], ◌∷◌, append-nil, fold, get_or, length, map, Some, arith, inl, inr}
use Rattle.std.specs.Prelude.{nat_lt, slice_get}
use Rattle.world_core.proofs.Prelude.{All, Contains, cases_lt, nat_tests, length-append, All-cons, All-head, All-nil, All-tail, Contains-append_cases, Contains-get_or, slice_get-get_or, slice_get_within, genome_in, Delivered, Letter, Entry, genotypes_of, with_genome, NumbersAgree, SeatValue, HasNumber, TakesIn, AreDifferent, slice_get-begins}

-- no two numbers have one genome
pub genotypes-different : NumbersAgree → (history : List Entry)
    → AreDifferent (genotypes_of history)
genotypes-different agree history number other genome at has =
    (agree history history history number other genome genome ([], append-nil history)
    ([], append-nil history) at has).1 refl

-- how a genome more counts, by its number
abbrev pub CountsOneMore : Type 0
CountsOneMore =
    (genotypes : List (List Letter)) (genome : List Letter) (number : ℕ)
    → slice_get (with_genome genotypes genome) number ≡ Some genome
    → length (with_genome genotypes genome) ≡ cond (nat_lt number (length genotypes))
    (length genotypes) (number + 1)

-- how many genotypes there are then
pub genotypes-counted : CountsOneMore
    → (before after : SeatValue) (genome : List Letter) (number len next : ℕ)
    → genotypes_of after.seen ≡ with_genome (genotypes_of before.seen) genome
    → slice_get (genotypes_of after.seen) number ≡ Some genome
    → len ≡ length (genotypes_of before.seen) → next ≡ cond (nat_lt number len) len (number + 1)
    → next ≡ length (genotypes_of after.seen)
genotypes-counted count before after genome number len next more at is counted =
    counted
    ∙ ap (λ n. cond (nat_lt number n) n (number + 1)) is
    ∙ sym (ap length more ∙ count (genotypes_of before.seen) genome number
    (sym (ap (λ gs. slice_get gs number) more) ∙ at))

-- how many genotypes have a number once this newborn was given its own
abbrev pub next_len : ℕ → Delivered → ℕ
next_len n birth = cond (nat_lt birth.handle.number n) n (birth.handle.number + 1)

-- newborns make no genotype fewer
len-grows : (n : ℕ) (births : List Delivered) → n ≤ fold next_len n births
len-grows n [] = omega arith
len-grows n (birth ∷ births) =
    grind (arith, nat_tests, len-grows (next_len n birth) births)

-- their numbers are below how many there are then
len-above : (n : ℕ) (births : List Delivered)
    → All (λ birth. birth.handle.number < fold next_len n births) births
len-above n [] = All-nil (λ birth. birth.handle.number < n)
len-above n (birth ∷ births) =
    All-cons (λ (one : Delivered). one.handle.number < fold next_len (next_len n birth) births)
    birth births
    (grind (arith, nat_tests, len-grows (next_len n birth) births))
    (len-above (next_len n birth) births)

-- where their numbers are below a bound, so is how many there are
len-within : (n most : ℕ) (births : List Delivered) → n ≤ most
    → All (λ birth. birth.handle.number < most) births → fold next_len n births ≤ most
len-within n most [] few below = few
len-within n most (birth ∷ births) few below =
    let first = All-head (λ (one : Delivered). one.handle.number < most) birth births below in
    len-within (next_len n birth) most births (grind (arith, nat_tests, first))
    (All-tail (λ (one : Delivered). one.handle.number < most) birth births below)

-- a genome of some newborns is that of one of them
newborn-of : (P : Delivered → Type 0) (births : List Delivered) (genome : List Letter)
    → All P births → Contains (map genome_in births) genome → (birth : Delivered) × P birth
    × (genome_in birth ≡ genome)
newborn-of P [] genome all has = absurd (omega (arith, has.1))
newborn-of P (birth ∷ births) genome all (zero, within, is) =
    (birth, All-head P birth births all, is)
newborn-of P (birth ∷ births) genome all (suc k, within, is) =
    newborn-of P births genome (All-tail P birth births all) (k, omega (arith, within), is)

-- how many genotypes there are once the genomes of newborns were taken in
pub len-taken : (old new : List (List Letter)) (births : List Delivered) → TakesIn old new births
    → AreDifferent new → fold next_len (length old) births ≡ length new
len-taken old new births takes different =
    -- how many genotypes have a number once all newborns have theirs, no more than were taken in
    let most : ℕ = fold next_len (length old) births in
    let within = len-within (length old) (length new) births
    (omega (arith, length-append old takes.stays.0, ap length takes.stays.1))
    (λ k d inside. slice_get_within new _ _ (takes.numbers k d inside)) in
    elim (cases_lt most (length new)) [
      | inl below ↦
          let genome : List Letter = get_or new most [] in
          let there : slice_get new most ≡ Some genome = slice_get-get_or new most [] below in
          absurd (elim (Contains-append_cases old (map genome_in births) genome
          ((takes.each.members genome).0 (Contains-get_or new most [] below))) [
            | inl has ↦
                let early : slice_get old has.0 ≡ Some genome =
                slice_get-get_or old has.0 genome has.1 ∙ ap Some has.2 in
                let same : has.0 ≡ most =
                different has.0 most genome
                (slice_get-begins old new has.0 genome takes.stays early)
                there in
                omega (arith, same, has.1, len-grows (length old) births)
            | inr has ↦
                let born = newborn-of (λ birth. HasNumber new birth × (birth.handle.number < most))
                births genome (λ k d inside.
                (takes.numbers k d inside, len-above (length old) births k d inside)) has in
                let same : born.0.handle.number ≡ most =
                different born.0.handle.number most genome (born.1.0 ∙ ap Some born.2) there in
                omega (arith, same, born.1.1)
          ])
      | inr above ↦ omega (arith, above, within)
    ]
