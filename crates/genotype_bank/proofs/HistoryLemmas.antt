-- Histories, their prefixes, and the calls under some numbers.
use Rattle.std.proofs.Common.{◌≡◌, ◌⊎◌, ℕ, suc, ◌≤◌, List, [], ◌∷◌, ◌++◌, length, Bool, true, false, true≢false, refl, sym, ap, ◌||◌, ◌∙◌, subst, inl, inr, ⊎_elim, arith, eqb, ne_eqb, length-append, append-nil, append_assoc, if◌then◌else◌, Option, Some, None}
use Rattle.genotype_bank.proofs.Prelude.{or_cases, or_right, nat_tests, common_steps, some, some-ne-none, dite, IsPrefix, ℕ_discrete, get_elem?, at_longer, Entry, is_among, calls_under, SawOwn, longer}
use Rattle.std.proofs.Math.Bool.{or_assoc}
use Rattle.std.specs.Prelude.{nat_lt}

-- nothing isn't something
pub none_some : (t : ℕ) → None ≡ Some t → ⊥
none_some t e = cc

-- the number, or 0 where there is none
abbrev pub value : Option ℕ → ℕ
value None = 0
value (Some t) = t

-- a test that does not hold is false
pub not_so : (b : Bool) → (b ≡ true → ⊥) → b ≡ false
not_so b nay = grind (arith, nay)

-- false isn't true
pub off : false ≡ true → ⊥
off e = true≢false (sym e)

-- what the second part of a second case gives stands in its place
pub second_case : {A B C D : Type 0} → (C → D) → A ⊎ (B × C) → A ⊎ (B × D)
second_case gives = ⊎_elim inl (λ second. inr (second.0, gives second.1))

-- an empty list has nothing at any place
pub nothing_there : {A : Type 0} (k : ℕ) (a : A) → get_elem? [] k ≡ some a → ⊥
nothing_there k a e = some-ne-none a (sym e)

-- one number more adds no calls, if it is one of the others where a call has it
pub own_more : (id : ℕ) (c : List ℕ) (h : List Entry)
    → ((i : ℕ) (e : Entry) → get_elem? h i ≡ some e → e.seat ≡ id → is_among id c ≡ true)
    → calls_under (id ∷ c) h ≡ calls_under c h
own_more id c [] known = refl
own_more id c (e ∷ es) known =
    let rest = own_more id c es (λ k. known (suc k)) in
    grind (arith, common_steps, nat_tests, known 0 e refl, rest)

-- what stands in a beginning stands in the whole
pub in_front : {A : Type 0} (h history : List A) (i : ℕ) (e : A) → IsPrefix h history
    → get_elem? h i ≡ some e → get_elem? history i ≡ some e
in_front h history i e pre at = subst (λ l. get_elem? l i ≡ some e) pre.1 (at_longer h pre.0 i e at)

-- a number among these and one more is among these, or is that one
pub has_back : (id n : ℕ) (c : List ℕ) → is_among n (id ∷ c) ≡ true → (is_among n c ≡ true)
    ⊎ (n ≡ id)
has_back id n c h = dite (ℕ_discrete n id) inr (λ ne. inl (rw (ne_eqb n id ne) at h))

-- a number among these is among these and one more
pub has_front : (id n : ℕ) (c : List ℕ) → is_among n c ≡ true → is_among n (id ∷ c) ≡ true
has_front id n c h = or_right (eqb n id) (is_among n c) h

-- no call is under numbers that no call has
pub drop_none : (c : List ℕ) (h : List Entry)
    → ((i : ℕ) (e : Entry) → get_elem? h i ≡ some e → is_among e.seat c ≡ true → ⊥)
    → calls_under c h ≡ []
drop_none c [] nay = refl
drop_none c (e ∷ es) nay =
    rw (not_so (is_among e.seat c) (nay 0 e refl)) (drop_none c es (λ i. nay (suc i)))

-- if what was seen has all calls under some numbers, what comes behind has none
pub own_front : (c : List ℕ) (h r : List Entry) → SawOwn c h (h ++ r)
    → calls_under c (h ++ r) ≡ calls_under c h
own_front c [] r saw = drop_none c r (λ i e at b. omega (arith, saw i e at b))
own_front c (x ∷ h) r saw =
    rw (own_front c h r (λ i e at b. omega (arith, saw (suc i) e at b)))

-- a prefix that has all calls under some numbers has the same of them as the history
pub own_seen : (c : List ℕ) (h history : List Entry) → IsPrefix h history → SawOwn c h history
    → calls_under c history ≡ calls_under c h
own_seen c h history pre saw =
    rw (← pre.1) (own_front c h pre.0 (rw pre.1 saw))

-- a prefix of a prefix is a prefix
pub IsPrefix-trans : {A : Type 0} (xs ys zs : List A) → IsPrefix xs ys → IsPrefix ys zs
    → IsPrefix xs zs
IsPrefix-trans xs ys zs a b =
    (a.0 ++ b.0, sym (append_assoc xs a.0 b.0) ∙ ap (λ l. l ++ b.0) a.1 ∙ b.1)

-- all calls are under numbers that each call has one of
pub own_all : (c : List ℕ) (h : List Entry)
    → ((i : ℕ) (e : Entry) → get_elem? h i ≡ some e → is_among e.seat c ≡ true)
    → calls_under c h ≡ h
own_all c [] all = refl
own_all c (e ∷ es) all = rw (all 0 e refl, own_all c es (λ j. all (suc j)))

-- of two beginnings of one history, one that is not longer is a beginning of the other
pub pre_two : (xs ys history : List Entry) → IsPrefix xs history → IsPrefix ys history
    → length xs ≤ length ys → IsPrefix xs ys
pre_two [] ys history a b le = (ys, refl)
pre_two (x ∷ xs) [] history a b le = absurd (omega arith)
pre_two (x ∷ xs) (y ∷ ys) history a b le =
    let t = pre_two xs ys (ys ++ b.0) (a.0, cc (a.1, b.1)) (b.0, refl) (omega arith) in
    (t.0, cc (t.1, a.1, b.1))

-- a beginning that is not shorter than the history is the history
pub pre_whole : (xs history : List Entry) → IsPrefix xs history → length history ≤ length xs
    → xs ≡ history
pre_whole xs history (([]), e) le = rw (append-nil xs) at e
pre_whole xs history ((x ∷ r), e) le =
    let b = ap (λ (l : List Entry). length l) e in
    absurd (omega (arith, length-append xs (x ∷ r)))

-- the longer of two beginnings
pub pick : (P : List Entry → Type 0) (xs ys : List Entry) → P xs → P ys → P (longer xs ys)
pick P xs ys a b = elim (nat_lt (length xs) (length ys)) as (λ c. P (if c then ys else xs))
    [ true ↦ b | false ↦ a ]

-- the longer of two histories is not shorter than either
pub longer_least : (xs ys : List Entry) → (length xs ≤ length (longer xs ys))
    × (length ys ≤ length (longer xs ys))
longer_least xs ys =
    (grind (arith, common_steps, nat_tests), grind (arith, common_steps, nat_tests))

-- a number is among two lists put together where it is among one of them
pub has_app : (n : ℕ) (c d : List ℕ) → is_among n (c ++ d) ≡ (is_among n c || is_among n d)
has_app n [] d = refl
has_app n (x ∷ c) d = rw (has_app n c d, or_assoc (eqb n x) (is_among n c) (is_among n d))

-- a number among two lists put together is among the first or the second
pub either_has : (n : ℕ) (c d : List ℕ) → is_among n (c ++ d) ≡ true → (is_among n c ≡ true)
    ⊎ (is_among n d ≡ true)
either_has n c d h = or_cases (is_among n c) (is_among n d) (sym (has_app n c d) ∙ h)

-- a number of the first list is among both put together
pub has_left : (n : ℕ) (c d : List ℕ) → is_among n c ≡ true → is_among n (c ++ d) ≡ true
has_left n c d h = rw (has_app n c d, h)

-- a number of the second list is among both put together
pub has_right : (n : ℕ) (c d : List ℕ) → is_among n d ≡ true → is_among n (c ++ d) ≡ true
has_right n c d h = has_app n c d ∙ or_right (is_among n c) (is_among n d) h
