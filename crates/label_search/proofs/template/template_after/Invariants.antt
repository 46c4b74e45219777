use Rattle.std.proofs.Common.{◌≡◌, ◌+◌, ◌-◌, ◌%◌, ◌++◌, length, map}
use Rattle.label_search.proofs.Prelude.{take_while, range_with_len, is_nop, letter_after, template_after, IsTemplate}
use Rattle.label_search.proofs.template.template_after.Given as goal

-- the nops so far, and those among the letters that are left
abbrev pub invariant-loop : goal.invariant-loop
invariant-loop l = record {
  place : l.place ≡ (l.ip + l.counter) % length l.memory;
  count : length l.template ≡ l.counter;
  template : IsTemplate l.template;
  nops : l.template ++ take_while is_nop
      (map (letter_after l.memory l.ip) (range_with_len (l.counter + 1) (10 - l.counter)))
      ≡ template_after l.memory l.ip;
}
