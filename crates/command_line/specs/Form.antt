-- The form of the words that stand after a command's name, and three numbers in one word
-- (docs/FORMATS.md, "The command line").
use Rattle.std.specs.Prelude.{ℕ, ◌≡◌, ◌<◌, ◌&&◌, Bool, true, not, List, [], ◌∷◌, ◌++◌, map, length, Option, ◌==◌, option_and_then, option_map}
use Rattle.std.specs.List.{list_any, after_first, before_first}
use Rattle.std.specs.Str.{bytes_eq}
use Rattle.clap.specs.Lexer.{usize_max}
use Rattle.numerals.specs.Numeral.{number_of}

-- an option that takes a value: its name, and the value that it has where it does not stand
pub record Valued : Type 0 where
  pub name : List ℕ
  pub default : Option (List ℕ)

-- what a command's words may be: its options, the names of its flags, and just so many positionals
pub record Form : Type 0 where
  pub options : List Valued
  pub flags : List (List ℕ)
  pub positionals : ℕ

-- what the words tell: the positionals, and in the form's order the options' values and the flags
pub record Told : Type 0 where
  pub positionals : List (List ℕ)
  pub values : List (Option (List ℕ))
  pub flags : List Bool

-- the names of the options
abbrev pub option_names : Form → List (List ℕ)
option_names form = map (λ option. option.name) form.options

-- the name stands in the list
abbrev pub has_name : List ℕ → List (List ℕ) → Bool
has_name name names = list_any (λ other. bytes_eq other name) names

-- no name stands twice
abbrev pub are_distinct : List (List ℕ) → Bool
are_distinct [] = true
are_distinct (name ∷ names) = not (has_name name names) && are_distinct names

-- each name stands once, where these are the names of the form's positionals
pub record IsSimple (form : Form) (positionals : List (List ℕ)) : Type 0 where
  pub names : are_distinct (option_names form ++ (form.flags ++ positionals)) ≡ true
  pub count : length positionals ≡ form.positionals
  pub few : length positionals < usize_max

-- the byte is a comma
abbrev pub is_comma : ℕ → Bool
is_comma byte = byte == 44

-- the numbers up to this one that three texts spell
abbrev pub numbers_of : ℕ → List ℕ → List ℕ → List ℕ → Option (List ℕ)
numbers_of greatest first second third = option_and_then (λ a.
    option_and_then (λ b.
    option_map (λ c. a ∷ b ∷ c ∷ []) (number_of 0 greatest third))
    (number_of 0 greatest second)) (number_of 0 greatest first)

-- the three numbers up to this one that a text spells with a comma between each two
abbrev pub three_numbers_of : ℕ → List ℕ → Option (List ℕ)
three_numbers_of greatest text =
    let others = after_first is_comma text in
    numbers_of greatest (before_first is_comma text)
    (before_first is_comma others) (after_first is_comma others)
