-- Lists of letters, compared and read after a place.
use Rattle.std.proofs.Common.{◌-◌, suc, true, false, arith, ◌≡◌, ◌∙◌, ap, refl, ℕ, ◌+◌, ◌%◌, ◌<◌, List, [], ◌∷◌, ◌++◌, Bool, length, append-nil, map, get_or}
use Rattle.std.specs.Prelude.{unwrap_or}
use Rattle.label_search.proofs.Prelude.{take_while, prefix_len, range_with_len, mod-add-mod, common_steps, length-map, Letter, NopA, NopB, NopC, complement_of, letters_of, is_nop, nops_read, letter_after}
use Rattle.label_search.specs.declared.site.Site.{Site}

-- a nop on a list that has room
pub nops_read-room : (nops : List Letter) (letter : Letter) → is_nop letter ≡ true
    → length nops < 10 → nops_read nops letter ≡ nops ++ letter ∷ []
nops_read-room nops letter nop room = grind (arith, common_steps)

-- the next place is one step further, across the end
pub next-place : (ip counter n place next : ℕ) → place ≡ (ip + counter) % n
    → next ≡ (place + 1) % n → next ≡ (ip + (counter + 1)) % n
next-place ip counter n place next here further = further ∙ ap (λ k. (k + 1) % n) here
    ∙ mod-add-mod (ip + counter) n 1 ∙ ap (λ k. k % n) (omega arith)

-- the letter at that next place
pub letter-next : (sites : List Site) (ip counter place next : ℕ) (letter : Letter)
    → place ≡ (ip + counter) % length sites → next ≡ (place + 1) % length sites
    → letter ≡ get_or (letters_of sites) next NopA
    → letter ≡ letter_after (letters_of sites) ip (counter + 1)
letter-next sites ip counter place next letter here further read =
    let long : length (letters_of sites) ≡ length sites =
    length-map sites (λ site. site.letter) in
    rw (read, next-place ip counter (length sites) place next here further, long) refl

-- the letters from a step on, the first apart
pub letters_from-next : (memory : List Letter) (ip counter left : ℕ) → 10 - counter ≡ left + 1
    → map (letter_after memory ip) (range_with_len (counter + 1) (10 - counter))
    ≡ letter_after memory ip (counter + 1) ∷ map (letter_after memory ip)
    (range_with_len (counter + 1 + 1) left)
letters_from-next memory ip counter left e =
    let more : 10 - counter ≡ suc left = omega arith in rw more refl

-- the first item passes
pub take_while-yes : {A : Type 0} (p : A → Bool) (x : A) (xs : List A) → p x ≡ true
    → take_while p (x ∷ xs) ≡ x ∷ take_while p xs
take_while-yes p x xs passes =
    let one : 1 + prefix_len p xs ≡ suc (prefix_len p xs) = omega arith in rw (passes, one) refl

-- the nops among the letters from a step on start with a nop
pub nops-next : (memory : List Letter) (ip counter left : ℕ) → 10 - counter ≡ left + 1
    → is_nop (letter_after memory ip (counter + 1)) ≡ true
    → take_while is_nop (map (letter_after memory ip) (range_with_len (counter + 1) (10 - counter)))
    ≡ letter_after memory ip (counter + 1) ∷ take_while is_nop
    (map (letter_after memory ip) (range_with_len (counter + 1 + 1) left))
nops-next memory ip counter left e nop =
    rw (letters_from-next memory ip counter left e) (take_while-yes is_nop _ _ nop)

-- they start with another letter
pub nops-end : (memory : List Letter) (ip counter : ℕ) → counter < 10
    → is_nop (letter_after memory ip (counter + 1)) ≡ false → (nops : List Letter)
    → nops ++ take_while is_nop
    (map (letter_after memory ip) (range_with_len (counter + 1) (10 - counter))) ≡ nops
nops-end memory ip counter h other nops =
    rw (letters_from-next memory ip counter (10 - (counter + 1)) (omega arith), other)
    (append-nil nops)

-- the complement of a nop is a nop
pub is_nop-complement : (letter : Letter) → is_nop letter ≡ true
    → is_nop (unwrap_or (complement_of letter) letter) ≡ true
is_nop-complement NopA nop = refl
is_nop-complement NopB nop = refl
is_nop-complement NopC nop = refl
is_nop-complement _ nop = nop
