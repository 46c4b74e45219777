-- Letters and their bytes.
use Rattle.std.proofs.Common.{◌≡◌, ℕ, ◌<◌, Some, arith}
use Rattle.std.specs.Prelude.{◌==◌}
use Rattle.log_lines.proofs.Prelude.{eqb-true, Letter, letter_table, byte_of, letter_of_byte, find-passes}

-- the letter that a byte gives has that byte
pub byte_of_letter : (byte : ℕ) (letter : Letter) → letter_of_byte byte ≡ Some letter
    → byte_of letter ≡ byte
unfolding letter_of_byte
byte_of_letter byte letter is =
    eqb-true (byte_of letter) byte (find-passes (λ l. byte_of l == byte) letter_table letter is)

-- a letter is above a comma
pub letter_above : (letter : Letter) → 44 < byte_of letter
letter_above letter = omega arith
