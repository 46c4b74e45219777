-- What it means that a command reads its words, and when they are refused (docs/FORMATS.md, "The
-- command line" and "Statuses and fault lines").
use Rattle.std.specs.Prelude.{◌≡◌, ℕ, List, [], ◌∷◌, Option, Some, None, Result, MatchResult, String, drop, map, string_bytes, ⊤, true, length}
use Rattle.clap.specs.Kinds.{Kinds}
use Rattle.clap.specs.declared.error.kind.ErrorKind.{ErrorKind}
use Rattle.clap.specs.declared.error.kind.ErrorKind.TheVariants as kind
use Rattle.command_line.specs.declared.refused.Refused.{Refused}
use Rattle.command_line.specs.declared.refused.Refused.TheVariants.{Memory, BadWords}
use Rattle.clap.specs.Faults.{is_simple_and_free}
use Rattle.clap.specs.Simple.{is_simple}
use Rattle.numerals.specs.Numeral.{number_of}
use Rattle.command_line.specs.Form.{Form, IsSimple, Told}
use Rattle.command_line.specs.Words.{has_dashed}
use Rattle.command_line.specs.Parsers.{app_by}
use Rattle.command_line.specs.Rows.{CommandRow}

-- bad words are words that tell nothing
abbrev pub Refuses : {T : Type 0} → Option T → Refused → Type 0
Refuses told Memory = ⊤
Refuses told BadWords = told ≡ None

-- the result is what the words after the name tell; bad words tell nothing
abbrev pub IsTold : {T A : Type 0} → (List (List ℕ) → Option T) → List (String A)
    → Result T Refused → Type 0
IsTold told words result =
    MatchResult result (λ value. told (drop 1 (map string_bytes words)) ≡ Some value)
    (Refuses (told (drop 1 (map string_bytes words))))

-- out of memory is told from every other kind, help and version among them
abbrev pub refused_by : ErrorKind → Refused
refused_by kind.OutOfMemory = Memory
refused_by _ = BadWords

-- the parser refused for one of these kinds, or for memory
abbrev pub IsRefusedBy : Kinds → Refused → Type 0
IsRefusedBy kinds Memory = ⊤
IsRefusedBy [] BadWords = ⊥
IsRefusedBy (one ∷ more) BadWords = ⊤

-- so many positionals and values as the form has
pub record IsOf (form : Form) (told : Told) : Type 0 where
  pub positionals : length told.positionals ≡ form.positionals
  pub values : length told.values ≡ length form.options

-- no number begins with `-`
abbrev pub NoMinus : Type 0
NoMinus = (least greatest : ℕ) (text : List ℕ) → number_of least greatest (45 ∷ text) ≡ None

-- the parser knows the command of a row, and what is taken refuses each text that begins with `-`
pub record IsReadableRow {T : Type 0} (row : CommandRow T) : Type 0 where
  pub distinct : IsSimple row.form row.texts
  pub simple : is_simple (app_by row.name row.form row.texts) ≡ true
  pub free : is_simple_and_free (app_by row.name row.form row.texts) ≡ true
  pub refuses : NoMinus → (told : Told) → IsOf row.form told → has_dashed told ≡ true
      → row.take told ≡ None
