-- Templates packed into a number.
use Rattle.std.proofs.Common.{◌≡◌, inl, inr, ◌∙◌, sym, ap, refl, ℕ, zero, suc, ◌+◌, ◌-◌, ◌*◌, ◌/◌, ◌%◌, ◌^◌, ◌<◌, ◌≤◌, List, [], ◌∷◌, ◌++◌, true, false, length, get_or, take, drop, reverse, arith, eq-eqb, pow-add}
use Rattle.std.specs.Prelude.{◌==◌}
use Rattle.label_search.proofs.Prelude.{Decides, common_steps, reverse-append, reverse-reverse, length-reverse, length-drop, length-take, take-append-drop, get_or-reverse, div-div-eq-div-mul, Letter, NopA, NopB, NopC, IsTemplate, is_nop, nops_read, digit_of_nop, nop_of, newest_first, packed_of, packed_after}
use Rattle.std.proofs.lemmas.Bool.{cases_Bool}
use Rattle.std.proofs.lemmas.Nat.{mod-pow-add}
use Rattle.std.proofs.Math.Seq.{drop-append_seam}

-- each letter is a nop
abbrev pub AreNops : List Letter → Type 0
AreNops [] = Unit {0}
AreNops (letter ∷ letters) = (is_nop letter ≡ true) × AreNops letters

-- a digit is that of a nop
pub nop-nop_of : (digit : ℕ) → is_nop (nop_of digit) ≡ true
nop-nop_of digit = grind (arith, common_steps)

-- the digit of each letter is below 4
pub digit-small : (letter : Letter) → digit_of_nop letter < 4
digit-small NopA = omega arith
digit-small NopB = omega arith
digit-small NopC = omega arith
digit-small _ = omega arith

-- the digit of a nop isn't 0
digit-some : (letter : Letter) → is_nop letter ≡ true → 0 < digit_of_nop letter
digit-some NopA nop = omega arith
digit-some NopB nop = omega arith
digit-some NopC nop = omega arith
digit-some _ nop = absurd cc

-- the nop of a nop's digit is that nop
pub nop_of-digit : (letter : Letter) → is_nop letter ≡ true → nop_of (digit_of_nop letter) ≡ letter
nop_of-digit NopA nop = refl
nop_of-digit NopB nop = refl
nop_of-digit NopC nop = refl
nop_of-digit _ nop = absurd cc

-- what is packed are nops
pub newest-nops : (most packed : ℕ) → AreNops (newest_first most packed)
unfolding newest_first
newest-nops zero packed = tt
newest-nops (suc most) packed = elim (cases_Bool (packed == 0)) [
  | inl none ↦ rw none tt
  | inr some ↦ rw some (nop-nop_of (packed % 4), newest-nops most (packed / 4))
]

-- at most as many nops are read from a number as are asked for
pub newest-few : (most packed : ℕ) → length (newest_first most packed) ≤ most
unfolding newest_first
newest-few zero packed = omega arith
newest-few (suc most) packed = grind (arith, common_steps, newest-few most (packed / 4))

-- packed nops are found again
pub newest-packed : (most : ℕ) (nops : List Letter) → AreNops nops → length nops ≤ most
    → newest_first most (packed_of nops) ≡ nops
unfolding newest_first
newest-packed zero [] are few = refl
newest-packed (suc most) [] are few = refl
newest-packed zero (nop ∷ nops) are few = absurd (omega arith)
newest-packed (suc most) (nop ∷ nops) are few =
    let some = digit-some nop are.0 in
    let small = digit-small nop in
    let packed : ℕ = packed_of nops * 4 + digit_of_nop nop in
    let none : (packed == 0) ≡ false = grind (arith, common_steps) in
    let low : packed % 4 ≡ digit_of_nop nop = omega arith in
    let high : packed / 4 ≡ packed_of nops = omega arith in
    rw (none, low, high, nop_of-digit nop are.0, newest-packed most nops are.1 (omega arith)) refl

-- the lowest digits are those of the first nops
pub packed-take : (k : ℕ) (nops : List Letter)
    → packed_of (take k nops) ≡ packed_of nops % 2 ^ (2 * k)
packed-take zero nops = omega arith
packed-take (suc k) [] = omega arith
packed-take (suc k) (nop ∷ nops) =
    let small = digit-small nop in
    let packed : ℕ = packed_of nops * 4 + digit_of_nop nop in
    let low : packed % 4 ≡ digit_of_nop nop = omega arith in
    let high : packed / 4 ≡ packed_of nops = omega arith in
    let width : 2 * suc k ≡ 2 * k + 2 = omega arith in
    let split : packed % 2 ^ (2 * k + 2) ≡ packed / 4 % 2 ^ (2 * k) * 4 + packed % 4 =
    mod-pow-add packed (2 * k) 2 in
    rw width (ap (λ n. n * 4 + digit_of_nop nop) (packed-take k nops)
    ∙ sym (rw (low, high) at split))

-- the first of some nops are nops
are-take : (k : ℕ) (nops : List Letter) → AreNops nops → AreNops (take k nops)
are-take zero nops are = tt
are-take (suc k) [] are = tt
are-take (suc k) (nop ∷ nops) are = (are.0, are-take k nops are.1)

-- the number after a further nop is that of this nop and the nine newest before it
packed-nop : (packed : ℕ) (letter : Letter) → packed ≡ packed_of (newest_first 10 packed)
    → packed % 2 ^ 18 * 4 + digit_of_nop letter
    ≡ packed_of (letter ∷ take 9 (newest_first 10 packed))
packed-nop packed letter is =
    rw (packed-take 9 (newest_first 10 packed), ← is) refl

-- this nop and the nine newest before it are found in that number
found-nop : (packed : ℕ) (letter : Letter) → packed ≡ packed_of (newest_first 10 packed)
    → is_nop letter ≡ true → newest_first 10 (packed % 2 ^ 18 * 4 + digit_of_nop letter)
    ≡ letter ∷ take 9 (newest_first 10 packed)
found-nop packed letter is nop =
    let nops = newest_first 10 packed in
    rw (packed-nop packed letter is)
    (newest-packed 10 (letter ∷ take 9 nops) (nop, are-take 9 nops (newest-nops 10 packed))
    (omega (arith, length-take 9 nops)))

-- the last k of a reversed list are the first k of the list, reversed
last-reversed : (k : ℕ) (nops : List Letter)
    → drop (length nops - k) (reverse nops) ≡ reverse (take k nops)
last-reversed k nops =
    let parts : reverse nops ≡ reverse (drop k nops) ++ reverse (take k nops) =
    ap reverse (sym (take-append-drop k nops)) ∙ reverse-append (take k nops) (drop k nops) in
    let long : length nops - k ≡ length (reverse (drop k nops)) =
    sym (length-reverse (drop k nops) ∙ length-drop k nops) in
    rw (long, parts) (drop-append_seam (reverse (drop k nops)) (reverse (take k nops)))

-- reading a letter of either kind
pub packed-read : (packed : ℕ) (letter : Letter) → packed ≡ packed_of (newest_first 10 packed)
    → packed_after packed letter ≡ packed_of (newest_first 10 (packed_after packed letter))
unfolding newest_first
packed-read packed letter is = elim (cases_Bool (is_nop letter)) [
  | inl nop ↦ rw (nop, found-nop packed letter is nop) (packed-nop packed letter is)
  | inr nop ↦ rw nop refl
]

-- the number after a letter stands for the nops that are read last then
pub nops-read : (packed : ℕ) (letter : Letter) → packed ≡ packed_of (newest_first 10 packed)
    → reverse (newest_first 10 (packed_after packed letter))
    ≡ nops_read (reverse (newest_first 10 packed)) letter
unfolding newest_first
nops-read packed letter is =
    let nops = newest_first 10 packed in
    elim (cases_Bool (is_nop letter)) [
      | inl nop ↦ rw nop (ap reverse (found-nop packed letter is nop)
          ∙ sym (rw (← reverse-append (letter ∷ []) nops, length-reverse (letter ∷ nops))
          (last-reversed 10 (letter ∷ nops))))
      | inr nop ↦ rw nop refl
    ]

-- each of some nops is one
nop-at : (nops : List Letter) → AreNops nops → (k : ℕ) (d : Letter) → k < length nops
    → is_nop (get_or nops k d) ≡ true
nop-at [] are k d h = absurd (omega arith)
nop-at (nop ∷ nops) are zero d h = are.0
nop-at (nop ∷ nops) are (suc k) d h = nop-at nops are.1 k d (omega arith)

-- what is packed is a template
pub template-packed : (packed : ℕ) → IsTemplate (reverse (newest_first 10 packed))
template-packed packed = record {
  few = rw length-reverse (newest-few 10 packed);
  nops = λ k d h.
      let within = simp length-reverse at h in
      rw (get_or-reverse (newest_first 10 packed) k d within)
      (nop-at (newest_first 10 packed) (newest-nops 10 packed) _ d (omega (arith, within)));
}

-- one number for one template
packed-once : (a b : ℕ) → a ≡ packed_of (newest_first 10 a) → b ≡ packed_of (newest_first 10 b)
    → reverse (newest_first 10 a) ≡ reverse (newest_first 10 b) → a ≡ b
packed-once a b one other same =
    let nops = simp reverse-reverse at (ap reverse same) in
    one ∙ ap packed_of nops ∙ sym other

-- two numbers pass the test just where their templates are the same
pub packed-same : (a b : ℕ) (self other : List Letter) → a ≡ packed_of (newest_first 10 a)
    → b ≡ packed_of (newest_first 10 b) → reverse (newest_first 10 a) ≡ self
    → reverse (newest_first 10 b) ≡ other → Decides (a == b) (self ≡ other)
packed-same a b self other one other_one is other_is = (
  λ e. let one_number : a ≡ b = grind (arith, common_steps) in cc,
  λ e. eq-eqb a b (packed-once a b one other_one (is ∙ e ∙ sym other_is)),
)

-- the nop at a place, counted from the newest
pub newest-at : (most packed i : ℕ) (d : Letter) → i < length (newest_first most packed)
    → get_or (newest_first most packed) i d ≡ nop_of (packed / 2 ^ (2 * i) % 4)
unfolding newest_first
newest-at zero packed i d h = absurd (omega arith)
newest-at (suc most) packed zero d h =
    let whole : packed / 1 ≡ packed = omega arith in
    rw whole (grind (arith, common_steps))
newest-at (suc most) packed (suc i) d h =
    let width : 2 * suc i ≡ 2 + 2 * i = omega arith in
    let power : 2 ^ (2 + 2 * i) ≡ 4 * 2 ^ (2 * i) = pow-add 2 2 (2 * i) in
    let further : packed / 4 / 2 ^ (2 * i) ≡ packed / 2 ^ (2 * suc i) =
    rw (width, power) (div-div-eq-div-mul packed 4 (2 ^ (2 * i))) in
    rw (← further) (grind (arith, common_steps, newest-at most (packed / 4) i d))

-- digits are counted one by one
pub count-none : (most : ℕ) → length (newest_first most 0) ≡ 0
unfolding newest_first
count-none zero = refl
count-none (suc most) = refl

-- where no nop may be read, none is
pub none-left : (packed : ℕ) → length (newest_first 0 packed) ≡ 0
unfolding newest_first
none-left packed = refl

-- a number above 0 has one nop more than it has without its lowest digit
pub count-more : (count packed : ℕ) → count < 10 → 0 < packed
    → length (newest_first (10 - count) packed)
    ≡ suc (length (newest_first (10 - (count + 1)) (packed / 4)))
unfolding newest_first
count-more count packed h some =
    let more : 10 - count ≡ suc (10 - (count + 1)) = omega arith in
    rw more (grind (arith, common_steps))
