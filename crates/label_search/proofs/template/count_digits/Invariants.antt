use Rattle.std.proofs.Common.{◌≡◌, ◌+◌, ◌-◌, length}
use Rattle.label_search.proofs.Prelude.{newest_first}
use Rattle.label_search.proofs.template.count_digits.Given as goal

-- the digits so far, and those that are left
abbrev pub invariant-loop-count : goal.invariant-loop-count
invariant-loop-count l =
    l.count + length (newest_first (10 - l.count) l.rest) ≡ length (newest_first 10 l.packed)
