use Rattle.std.proofs.Common.{◌≡◌, ◌≤◌, take}
use Rattle.std.specs.Str.Parse.{digits_value}
use Rattle.numerals.specs.Numeral.{digits_len}
use Rattle.numerals.proofs.numeral.long_value.Given as goal

abbrev pub invariant-loop-at : goal.invariant-loop-at
invariant-loop-at l = record {
  digits : l.at ≤ digits_len l.text;
  value : l.value ≡ digits_value 10 (take l.at l.text);
}
