-- The fields of a saved world that no log has (docs/FORMATS.md, "Saved worlds").
use Rattle.std.specs.Prelude.{ℕ, ℤ, pos, negsuc, ◌-◌, ◌<◌, ◌==◌, ◌&&◌, Bool, true, false, nat_lt, nat_le, List, [], ◌∷◌, map, length, Option, Some, None, option_and_then, option_map, if◌then◌else◌, FitsSigned}
use Rattle.saved_lines.specs.Prelude.{w32, signed_decimal, list_all, bytes_eq, Letter, letter_of_byte, is_nop, IsTemplate, number_of, Field, each, given}
use Rattle.saved_lines.specs.SavedText.{digit_of, nops_text}

-- the number behind a minus
abbrev pub below_zero : ℕ → ℤ
below_zero n = negsuc (n - 1)

-- the number of 32 bits that a word spells
abbrev pub read_signed : List ℕ → Option ℤ
read_signed [] = None
read_signed (byte ∷ rest) =
    if byte == 45 then option_map below_zero (number_of 1 2147483648 rest)
    else option_map pos (number_of 0 2147483647 (byte ∷ rest))

-- a number of 32 bits; one below 0 has a minus
abbrev pub signed : Field ℤ
signed =
    record { text = signed_decimal; read = read_signed; Fits = λ number. FitsSigned w32 number }

-- the place that a digit is of
abbrev pub mark_of : ℕ → Option Bool
mark_of byte = if byte == 49 then Some true else if byte == 48 then Some false else None

-- a digit for each place, of which there is at least one
abbrev pub marks : Field (List Bool)
marks =
    record {
      text = map digit_of;
      read = λ word.
          option_and_then (λ ps. given (nat_lt 0 (length ps)) ps) (each mark_of word);
      Fits = λ places. 0 < length places;
    }

-- from one to ten letters, all of them nops
abbrev pub are_nops : List Letter → Bool
are_nops letters =
    nat_lt 0 (length letters) && nat_le (length letters) 10 && list_all is_nop letters

-- from one to ten nops that a word spells
abbrev pub some_nops : List ℕ → Option (List Letter)
some_nops word =
    option_and_then (λ letters. given (are_nops letters) letters) (each letter_of_byte word)

-- the nops that a word spells, or a dash for none
abbrev pub read_nops : List ℕ → Option (List Letter)
read_nops word = if bytes_eq word (45 ∷ []) then Some [] else some_nops word

-- at most ten nops
abbrev pub nops : Field (List Letter)
nops = record { text = nops_text; read = read_nops; Fits = IsTemplate }
