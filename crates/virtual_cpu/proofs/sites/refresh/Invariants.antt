use Rattle.std.proofs.Common.{◌≡◌, ◌++◌, map, take, drop}
use Rattle.std.specs.Prelude.{vec_len, vec_capacity}
use Rattle.virtual_cpu.proofs.Prelude.{Site, fresh_site}
use Rattle.virtual_cpu.proofs.sites.refresh.Given as goal

-- the sites so far are fresh
abbrev pub invariant-loop-at : goal.invariant-loop-at
invariant-loop-at l = record {
  items : l.items.items ≡ map (λ (s : Site). fresh_site s.letter) (take l.at l.initial.items.items)
      ++ drop l.at l.initial.items.items;
  count : vec_len l.items ≡ vec_len l.initial.items;
  capacity : vec_capacity l.items ≡ vec_capacity l.initial.items;
}
