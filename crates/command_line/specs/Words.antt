-- How words are read from left to right (docs/FORMATS.md, "The command line").
use Rattle.std.specs.Prelude.{ℕ, ◌==◌, ◌&&◌, ◌||◌, Bool, true, false, is_some, is_none, if◌then◌else◌, nat_lt, List, [], ◌∷◌, ◌++◌, map, length, zip, position, codes, Option, Some, None, option_and_then, slice_get, slice_set}
use Rattle.std.specs.List.{list_any}
use Rattle.std.specs.Option.{option_or, option_map_or}
use Rattle.std.specs.Str.{bytes_eq}
use Rattle.clap.specs.Lexer.{long_of}
use Rattle.command_line.specs.Form.{Form, Told}

-- what a word is before the options end
pub data Word : Type 0 where
  -- `--`
  ends : Word
  -- `--x`, or `--x=v`
  names : List ℕ → Option (List ℕ) → Word
  -- another word that begins with `-`
  dashed : Word
  plain : Word

-- the first byte is `-`
abbrev pub begins_dashed : List ℕ → Bool
begins_dashed [] = false
begins_dashed (byte ∷ bytes) = byte == 45

-- what this word is
abbrev pub kind_of_word : List ℕ → Word
kind_of_word word = if bytes_eq word (codes "--") then ends else
    option_map_or (λ name. names name.0 name.1) (long_of word)
    (if begins_dashed word then dashed else plain)

-- what the words so far have given, in the form's order
pub record Given : Type 0 where
  -- the options ended
  pub ended : Bool
  -- the place of the option whose value is the next word
  pub waits : Option ℕ
  pub positionals : List (List ℕ)
  pub values : List (Option (List ℕ))
  pub flags : List Bool

-- the flag at this place stands
abbrev pub is_set : List Bool → ℕ → Bool
is_set flags place = option_map_or (λ flag. flag) (slice_get flags place) false

-- the option at this place has a value
abbrev pub is_given : List (Option (List ℕ)) → ℕ → Bool
is_given values place = option_map_or is_some (slice_get values place) false

-- one more positional, where the form has one more
abbrev pub with_positional : Form → Given → List ℕ → Option Given
with_positional form given word = if nat_lt (length given.positionals) form.positionals
    then Some (record given { positionals = given.positionals ++ word ∷ [] }) else None

-- the option at this place has this value
abbrev pub with_option_value : Given → ℕ → List ℕ → Given
with_option_value given place value =
    record given { waits = None; values = slice_set given.values place (Some value) }

-- the option at this place has the value of its own word, or waits for the next one
abbrev pub value_or_wait : Given → ℕ → Option (List ℕ) → Given
value_or_wait given place (Some value) = with_option_value given place value
value_or_wait given place None = record given { waits = Some place }

-- an option stands at most once
abbrev pub with_option : Given → Option (List ℕ) → ℕ → Option Given
with_option given value place =
    if is_given given.values place then None else Some (value_or_wait given place value)

-- a flag takes no value and stands at most once
abbrev pub with_flag : Given → Option (List ℕ) → ℕ → Option Given
with_flag given (Some value) place = None
with_flag given None place = if is_set given.flags place then None
    else Some (record given { flags = slice_set given.flags place true })

-- the option of this name at its place, or else the flag of this name
abbrev pub option_or_flag : Form → Given → List ℕ → Option (List ℕ) → Option ℕ → Option Given
option_or_flag form given name value (Some place) = with_option given value place
option_or_flag form given name value None =
    option_and_then (with_flag given value) (position (λ flag. bytes_eq flag name) form.flags)

-- a word of this kind before the options end
abbrev pub as_word : Form → Given → List ℕ → Word → Option Given
as_word form given word ends = Some (record given { ended = true })
as_word form given word (names name value) = option_or_flag form given name value
    (position (λ option. bytes_eq option.name name) form.options)
as_word form given word dashed = None
as_word form given word plain = with_positional form given word

-- one more word, where the option at this place waits for it, or none
abbrev pub next_where : Form → Given → List ℕ → Option ℕ → Option Given
next_where form given word (Some place) =
    if begins_dashed word then None else Some (with_option_value given place word)
next_where form given word None = if given.ended then with_positional form given word
    else as_word form given word (kind_of_word word)

-- no more words: each option that does not stand has its default
abbrev pub told_with_defaults : Form → Given → Option Told
told_with_defaults form given =
    if is_none given.waits && length given.positionals == form.positionals
    then Some (record {
      positionals = given.positionals;
      values = map (λ pair. option_or pair.1 pair.0.default) (zip form.options given.values);
      flags = given.flags;
    }) else None

-- these words after what was given
abbrev pub read_from : Form → Given → List (List ℕ) → Option Told
read_from form given [] = told_with_defaults form given
read_from form given (word ∷ words) = option_and_then (λ next. read_from form next words)
    (next_where form given word given.waits)

-- what the words tell by the form, from left to right; none where they break a rule
abbrev pub told_by : Form → List (List ℕ) → Option Told
told_by form words = read_from form (record {
  ended = false;
  waits = None;
  positionals = [];
  values = map (λ option. None) form.options;
  flags = map (λ flag. false) form.flags;
}) words

-- the value begins with `-`
abbrev pub is_dashed : Option (List ℕ) → Bool
is_dashed None = false
is_dashed (Some value) = begins_dashed value

-- a positional or a value begins with `-`
abbrev pub has_dashed : Told → Bool
has_dashed told = list_any begins_dashed told.positionals || list_any is_dashed told.values

-- what the words tell, where no positional and no value begins with `-`
abbrev pub undashed : Told → Option Told
undashed told = if has_dashed told then None else Some told
