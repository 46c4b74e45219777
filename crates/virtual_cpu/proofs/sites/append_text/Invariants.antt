use Rattle.std.proofs.Common.{◌≡◌, ◌+◌, ◌++◌, map, take}
use Rattle.std.specs.Prelude.{vec_len, vec_capacity}
use Rattle.virtual_cpu.proofs.Prelude.{fresh_site}
use Rattle.virtual_cpu.proofs.sites.append_text.Given as goal

-- the sites so far
abbrev pub invariant-loop-letter : goal.invariant-loop-letter
invariant-loop-letter l = record {
  items : l.items.items
      ≡ l.initial.items.items ++ map fresh_site (take l.letter-index l.text);
  count : vec_len l.items ≡ vec_len l.initial.items + l.letter-index;
  capacity : vec_capacity l.items ≡ vec_capacity l.initial.items;
}
