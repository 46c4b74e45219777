-- Numbered calls that fail, counted one by one.
use Rattle.std.proofs.Common.{◌≡◌, ◌≤◌, ◌<◌, ℕ, ◌+◌, List, Bool, true, false, if◌then◌else◌, refl, ap, ◌∙◌, arith}
use Rattle.std.proofs.lemmas.List.{map-id}
use Rattle.std.proofs.lemmas.List.FromFn.{sum_by-map-range_with_len_more}
use Rattle.std.specs.List.{count_by, range_with_len}
use Rattle.std.specs.Option.{option_map}
use Rattle.std.specs.Prelude.{Option, None, Some, is_some, nat_lt, min}
use Rattle.avida_port.specs.Ports.{last_count}
use Rattle.avida_port.specs.Memory.{call_fails, failed_calls, entry_for, failed_puts, first_failing}
use Rattle.avida_port.specs.declared.mem_sink.Failing.{Failing}

-- the last number of a range is counted where it passes
count_by-range_more : (p : ℕ → Bool) (n : ℕ)
    → count_by p (range_with_len 1 (n + 1))
    ≡ count_by p (range_with_len 1 n) + (if p (n + 1) then 1 else 0)
count_by-range_more p n =
    let e = sum_by-map-range_with_len_more (λ x. if p x then 1 else 0) (λ x. x) 1 n (n + 1)
    (omega arith) in
    simp map-id at e

-- a count up to the next number, or up to the same one
count_by-range_climb : (p : ℕ → Bool) (n m : ℕ) → n ≤ m → m ≤ n + 1
    → count_by p (range_with_len 1 n) ≤ count_by p (range_with_len 1 m)
count_by-range_climb p n m low high = grind (arith, count_by-range_more p n)

-- a count up to the next number, which passes
count_by-range_rise : (p : ℕ → Bool) (n m : ℕ) → m ≡ n + 1 → p m ≡ true
    → count_by p (range_with_len 1 n) < count_by p (range_with_len 1 m)
count_by-range_rise p n m next passes = grind (arith, count_by-range_more p n)

-- the calls that failed do not become fewer
pub failed_calls-climb : (fails : List ℕ) (n m : ℕ) → n ≤ m → m ≤ n + 1
    → failed_calls fails n ≤ failed_calls fails m
unfolding failed_calls
failed_calls-climb fails n m low high = count_by-range_climb (call_fails fails) n m low high

-- a call that fails is one more
pub failed_calls-rise : (fails : List ℕ) (n m : ℕ) → m ≡ n + 1 → call_fails fails m ≡ true
    → failed_calls fails n < failed_calls fails m
unfolding failed_calls
failed_calls-rise fails n m next failed = count_by-range_rise (call_fails fails) n m next failed

-- the puts that failed do not become fewer
pub failed_puts-climb : (fails : List Failing) (n m : ℕ) → n ≤ m → m ≤ n + 1
    → failed_puts fails n ≤ failed_puts fails m
unfolding failed_puts
failed_puts-climb fails n m low high =
    count_by-range_climb (λ number. is_some (entry_for fails number)) n m low high

-- a put that fails is one more
pub failed_puts-rise : (fails : List Failing) (n m : ℕ) → m ≡ n + 1
    → is_some (entry_for fails m) ≡ true → failed_puts fails n < failed_puts fails m
unfolding failed_puts
failed_puts-rise fails n m next failed =
    count_by-range_rise (λ number. is_some (entry_for fails number)) n m next failed

-- an entry that is there under a condition
entry_there : (b : Bool) (entry : Option Failing) (takes : ℕ)
    → option_map (λ f. f.takes) (if b then entry else None) ≡ Some takes
    → (b ≡ true) × (is_some entry ≡ true)
entry_there true None takes e = cc
entry_there true (Some f) takes e = (refl, refl)
entry_there false entry takes e = cc

-- a put with an entry fails
pub failed_puts-entry : (fails : List Failing) (puts after takes : ℕ)
    → option_map (λ f. f.takes) (first_failing fails puts) ≡ Some takes
    → after ≡ min (puts + 1) last_count → failed_puts fails puts < failed_puts fails after
failed_puts-entry fails puts after takes e next =
    let there = entry_there (nat_lt puts last_count) (entry_for fails (puts + 1)) takes e in
    let below : puts < last_count = grind (arith, there.0) in
    let is : after ≡ puts + 1 = omega arith in
    failed_puts-rise fails puts after is
    (ap (λ number. is_some (entry_for fails number)) is ∙ there.1)
