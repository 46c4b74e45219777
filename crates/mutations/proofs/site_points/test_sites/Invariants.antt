use Rattle.std.proofs.Common.{◌≡◌, ◌+◌, ◌*◌, ◌≤◌, ◌++◌, take, drop}
use Rattle.mutations.proofs.Prelude.{word_of, site_text, after_sites}
use Rattle.mutations.proofs.site_points.test_sites.Given as goal

abbrev pub invariant-loop-letter : goal.invariant-loop-letter
invariant-loop-letter l = record {
  stream : l.draws ≡ record l.initial.draws { taken = l.draws.taken };
  text : take l.letter-index l.text ++ site_text (word_of l.initial.draws) l.rate l.draws.taken
      (drop l.letter-index l.text)
      ≡ site_text (word_of l.initial.draws) l.rate l.initial.draws.taken l.initial.text;
  next : after_sites (word_of l.initial.draws) l.rate l.draws.taken
      (drop l.letter-index l.text)
      ≡ after_sites (word_of l.initial.draws) l.rate l.initial.draws.taken l.initial.text;
  most : l.draws.taken ≤ l.initial.draws.taken + 2 * l.letter-index;
}
