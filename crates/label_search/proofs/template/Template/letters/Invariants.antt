use Rattle.std.proofs.Common.{◌≡◌, length, take}
use Rattle.label_search.proofs.template.Template.letters.Given as goal

abbrev pub invariant-loop-at : goal.invariant-loop-at
invariant-loop-at l = record {
  made : l.letters.items ≡ take l.at l.self;
  count : length l.letters.items ≡ l.at;
}
