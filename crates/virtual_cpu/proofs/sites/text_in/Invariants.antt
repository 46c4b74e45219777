use Rattle.std.proofs.Common.{◌≡◌, length, map, take}
use Rattle.std.specs.Prelude.{vec_len, vec_capacity}
use Rattle.virtual_cpu.proofs.Prelude.{letter_by}
use Rattle.virtual_cpu.proofs.sites.text_in.Given as goal

-- the letters so far
abbrev pub invariant-loop-site : goal.invariant-loop-site
invariant-loop-site l = record {
  letters : l.letters.items ≡ map (letter_by l.clean) (take l.site-index l.sites);
  count : vec_len l.letters ≡ l.site-index;
  room : vec_capacity l.letters ≡ length l.sites;
}
