use Rattle.std.proofs.Common.{◌≡◌, ◌+◌, ◌-◌, ◌%◌, ◌++◌, length, map}
use Rattle.label_search.proofs.Prelude.{take_while, range_with_len, letters_of, is_nop, letter_after, template_after, complements_of}
use Rattle.label_search.proofs.template.complement_after.Given as goal

-- the complements so far, and those of the nops among the letters that are left
abbrev pub invariant-loop : goal.invariant-loop
invariant-loop l = record {
  place : l.last ≡ (l.ip + l.counter) % length l.memory;
  count : length l.complement ≡ l.counter;
  nops : l.complement ++ complements_of
      (take_while is_nop (map (letter_after (letters_of l.memory) l.ip)
      (range_with_len (l.counter + 1) (10 - l.counter))))
      ≡ complements_of (template_after (letters_of l.memory) l.ip);
}
