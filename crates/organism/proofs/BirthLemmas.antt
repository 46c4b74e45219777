-- The child of a divide.
use Rattle.std.proofs.Common.{◌≡◌, ℕ, ◌-◌, ◌≤◌, List, length, drop, arith, length-take, length-drop, Result, Ok, Err, IfOk, OnOk}
use Rattle.organism.proofs.Prelude.{Letter, DivideAsk, BirthRecord, child_of, origin_of, after_birth, child_part, SettingNumbers, OrganismState, clean_text, written_text, child_range, birth_record, after_child, child_letters}

-- what follows for each value
pub IfOk-then : {A : Type 0} {E : Type 0} (P Q : A → Type 0) (r : Result A E) → IfOk r P
    → ((a : A) → P a → Q a) → IfOk r Q
IfOk-then P Q (Ok a) h f = f a h
IfOk-then P Q (Err e) h f = tt

-- what follows from two facts of each value
pub IfOk-map2 : {A : Type 0} {E : Type 0} (P Q R : A → Type 0) → ((a : A) → P a → Q a → R a)
    → (r : Result A E) → IfOk r P → IfOk r Q → IfOk r R
IfOk-map2 P Q R f (Ok a) h k = f a h k
IfOk-map2 P Q R f (Err e) h k = tt

-- what follows from a fact that no value is in
pub OnOk-then : {A : Type 0} {E : Type 0} (P Q : Type 0) (r : Result A E) → OnOk r P → (P → Q)
    → OnOk r Q
OnOk-then P Q (Ok a) h f = f h
OnOk-then P Q (Err e) h f = tt

-- the record that two texts and a genome have, which are those of the divide
pub birth_record-of : (settings : SettingNumbers) (words : ℕ → ℕ) (k : ℕ) (o : OrganismState)
    (ask : DivideAsk) (clean written parent : List Letter) → clean ≡ clean_text o ask
    → written ≡ written_text o ask → parent ≡ o.genome
    → origin_of words k settings.rates (child_range settings.rules) clean written parent
    ≡ birth_record settings words k o ask
unfolding birth_record
birth_record-of settings words k o ask clean written parent same_clean same_written same_parent =
    rw (same_clean, same_written, same_parent)

-- the number of the word after those of the birth
pub after_child-of : (settings : SettingNumbers) (words : ℕ → ℕ) (k : ℕ) (o : OrganismState)
    (ask : DivideAsk) (clean written : List Letter) → clean ≡ clean_text o ask
    → written ≡ written_text o ask
    → after_birth words k settings.rates (child_range settings.rules) clean written
    ≡ after_child settings words k o ask
unfolding after_child
after_child-of settings words k o ask clean written same_clean same_written =
    rw (same_clean, same_written)

-- the letters that the record makes of the parent's genome
pub child_letters-of : (settings : SettingNumbers) (words : ℕ → ℕ) (k : ℕ) (o : OrganismState)
    (ask : DivideAsk) (parent made : List Letter) (birth : BirthRecord) → parent ≡ o.genome
    → birth ≡ birth_record settings words k o ask → child_of parent birth ≡ Ok made
    → made ≡ child_letters settings words k o ask
unfolding child_letters
child_letters-of settings words k o ask parent made birth same_parent same_birth makes =
    rw (← same_birth, ← same_parent, makes)

-- how long the child's part of a list is
pub child_part-length : (places : List Letter) (read end : ℕ) → end ≤ length places
    → length (child_part places read end) ≡ end - read
child_part-length places read end h =
    omega (arith, length-take (end - read) (drop read places), length-drop read places)
