use Rattle.std.proofs.Common.{◌≡◌, take}
use Rattle.std.specs.Prelude.{vec_len, vec_capacity}
use Rattle.virtual_cpu.proofs.Prelude.{letters_of, clean_of, executed_of, copied_of}
use Rattle.virtual_cpu.proofs.sites.Sites.of_lists.Given as goal

-- the sites so far
abbrev pub invariant-loop-at : goal.invariant-loop-at
invariant-loop-at l = record {
  letters : letters_of l.items.items ≡ take l.at l.letters;
  clean : clean_of l.items.items ≡ take l.at l.clean;
  executed : executed_of l.items.items ≡ take l.at l.executed;
  copied : copied_of l.items.items ≡ take l.at l.copied;
  count : vec_len l.items ≡ l.at;
  room : vec_capacity l.items ≡ l.room;
}
