-- The commands as the parser knows them (docs/FORMATS.md, "The command line").
use Rattle.std.specs.Prelude.{Bool, true, false, [], ◌∷◌, ◌++◌, List, map, ℕ, codes, Option, Some, None, option_map}
use Rattle.std.specs.Option.{option_to_list}
use Rattle.std.specs.Str.{bytes_eq}
use Rattle.clap.specs.Walk.{Rule, Row, first_of}
use Rattle.clap.specs.Simple.{App, matches_of, new_rule, new_shape}
use Rattle.clap.specs.Kinds.{Kinds}
use Rattle.clap.specs.Faults.{fault_of}
use Rattle.clap.specs.declared.builder.action.ArgAction.TheVariants.{SetTrue}
use Rattle.command_line.specs.Form.{Form, Told, Valued}

-- the rule of an option of a form
abbrev pub option_rule : Valued → Rule
option_rule option = record (new_rule option.name)
    { long = Some option.name; defaults = option_to_list option.default }

-- the rule of a flag of this name
abbrev pub flag_rule : List ℕ → Rule
flag_rule name = record (new_rule name) { long = Some name; action = Some SetTrue }

-- the rule of a positional, which the parser knows by this name
abbrev pub positional_rule : List ℕ → Rule
positional_rule name = record (new_rule name) { required = true }

-- the command that reads words by the form, with these names for its positionals
abbrev pub app_by : List ℕ → Form → List (List ℕ) → App
app_by name form positionals = record {
  top = record (new_shape name) {
    rules = map option_rule form.options
        ++ (map flag_rule form.flags ++ map positional_rule positionals);
    disable_help_flag = true;
  };
  subs = [];
}

-- a flag's text says that it stands
abbrev pub is_given_true : Option (List ℕ) → Bool
is_given_true (Some text) = bytes_eq text (codes "true")
is_given_true None = false

-- the values, where there are all of them
abbrev pub all_of : List (Option (List ℕ)) → Option (List (List ℕ))
all_of [] = Some []
all_of (None ∷ values) = None
all_of (Some value ∷ values) = option_map (λ more. value ∷ more) (all_of values)

-- what the matches tell of the form
abbrev pub told_in : Form → List (List ℕ) → List Row → Option Told
told_in form positionals rows = option_map (λ texts. record {
  positionals = texts;
  values = map (λ option. first_of option.name rows) form.options;
  flags = map (λ flag. is_given_true (first_of flag rows)) form.flags;
}) (all_of (map (λ name. first_of name rows) positionals))

-- what is told, where there is no fault
abbrev pub unless_fault : Kinds → Option Told → Option Told
unless_fault [] told = told
unless_fault (kind ∷ kinds) told = None

-- what the parser makes of the words, of which the first is the name
abbrev pub parsed_by : List ℕ → Form → List (List ℕ) → List (List ℕ) → Option Told
parsed_by name form positionals words =
    unless_fault (fault_of (app_by name form positionals) words)
    (told_in form positionals (matches_of (app_by name form positionals) words))
