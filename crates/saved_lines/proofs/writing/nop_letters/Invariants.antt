use Rattle.std.proofs.Common.{◌≡◌, ◌++◌, take, map}
use Rattle.saved_lines.proofs.Prelude.{byte_of}
use Rattle.saved_lines.proofs.writing.nop_letters.Given as goal

abbrev pub invariant-loop-at : goal.invariant-loop-at
invariant-loop-at l = l.out.items ≡ l.initial.out.items ++ map byte_of (take l.at l.nops)
