use Rattle.std.proofs.Common.{◌≡◌, ◌≤◌, ◌<◌, ◌^◌, take}
use Rattle.std.specs.Str.Parse.{digits_value}
use Rattle.numerals.specs.Numeral.{digits_len}
use Rattle.numerals.proofs.numeral.short_value.Given as goal

abbrev pub invariant-loop-len : goal.invariant-loop-len
invariant-loop-len l = record {
  digits : l.len ≤ digits_len l.text;
  value : l.value ≡ digits_value 10 (take l.len l.text);
  fits : l.value < 10 ^ l.len;
}
