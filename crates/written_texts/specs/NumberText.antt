-- Numbers between the words of a line (docs/FORMATS.md, "Trace lines").
use Rattle.std.specs.Prelude.{ℕ, ◌++◌, List, ℤ, codes, decimal}
use Rattle.std.specs.Fmt.{signed_decimal}

-- a number with a space before it
abbrev pub spaced : ℕ → List ℕ
spaced number = codes " " ++ decimal number

-- a register's value with a space before it
abbrev pub spaced_value : ℤ → List ℕ
spaced_value value = codes " " ++ signed_decimal value
