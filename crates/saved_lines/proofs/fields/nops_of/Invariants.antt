-- The letters so far are nops, and what is left gives the others.
use Rattle.std.proofs.Common.{◌≡◌, drop, length, true}
use Rattle.saved_lines.proofs.Prelude.{list_all, is_nop, some_nops}
use Rattle.saved_lines.proofs.NopLemmas.{nops_behind}
use Rattle.saved_lines.proofs.fields.nops_of.Given as goal

abbrev pub invariant-loop-byte : goal.invariant-loop-byte
invariant-loop-byte l = record {
  read : nops_behind l.nops (drop l.byte-index l.word) ≡ some_nops l.word;
  nops : list_all is_nop l.nops ≡ true;
  count : length l.nops ≡ l.byte-index;
}
