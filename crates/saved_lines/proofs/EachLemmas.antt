-- Items read one by one.
use Rattle.std.proofs.Common.{◌≡◌, ℕ, ◌<◌, Bool, true, List, length, Some, refl, sym, arith}
use Rattle.std.specs.Prelude.{nat_lt}
use Rattle.saved_lines.proofs.Prelude.{nat_tests, each, each_length, mark_of, marks}

-- marks of a word that is not empty
pub marks_made : (word : List ℕ) (places : List Bool) → Some places ≡ each mark_of word
    → 0 < length word → Some places ≡ marks.read word
marks_made word places is some =
    let long : length places ≡ length word = each_length mark_of word places (sym is) in
    let any : nat_lt 0 (length places) ≡ true = grind (arith, nat_tests, long, some) in
    rw (sym is, any) refl
