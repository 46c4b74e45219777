use Rattle.std.proofs.Common.{◌≡◌, ◌≤◌, length, take, drop}
use Rattle.label_search.proofs.Prelude.{pointwise, same_letter, begins_with, letters_of}
use Rattle.label_search.proofs.search.begins_with.Given as goal

-- the rests are still to be compared
abbrev pub invariant-loop-at : goal.invariant-loop-at
invariant-loop-at l = record {
  within : l.at ≤ length l.sites;
  rest : pointwise same_letter (drop l.at l.what)
      (drop l.at (take (length l.what) (letters_of l.sites)))
      ≡ begins_with (letters_of l.sites) l.what;
}
