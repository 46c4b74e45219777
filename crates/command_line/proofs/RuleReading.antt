-- The words read from left to right by the parser's rules, a step between the parser and the form.
use Rattle.std.specs.Prelude.{ℕ, ◌+◌, min, Bool, true, false, is_some, if◌then◌else◌, List, [], ◌∷◌, codes, fold, Option, Some, None, option_and_then}
use Rattle.command_line.proofs.Prelude.{Row, Rule, Text, arg_by_index, arg_by_long, takes_values, with_default, usize_max, Shape, new_shape, Kinds, or_else, check_fault, defaults_fault}
use Rattle.command_line.proofs.Uses.{Use, rows_by, set_use, value_in}
use Rattle.command_line.proofs.WordViews.{View, view, ending, long, short, torn, dash, clean}

-- a built command of this name with these rules
abbrev pub shape_by : Text → List Rule → Shape
shape_by name rules = record (new_shape name) {
  rules = rules;
  disable_help_flag = true;
  disable_help_subcommand = true;
  is_built = true;
}

-- the matches, where no fault comes
abbrev pub unless_fault : Kinds → List Row → Option (List Row)
unless_fault [] rows = Some rows
unless_fault (k ∷ ks) rows = None

-- where the reading stands
pub record Stand : Type 0 where
  pub uses : List Use
  -- the argument whose value is the next word
  pub waits : Option Rule
  -- the number of the next positional
  pub place : ℕ
  pub ended : Bool

-- where the reading stands, as a record of these parts
abbrev pub stand : List Use → Option Rule → ℕ → Bool → Stand
stand uses waits place ended = record { uses = uses; waits = waits; place = place; ended = ended }

-- an argument is used at most once
abbrev pub with_use : Stand → Rule → Text → Option Stand
with_use s a v = if is_some (value_in a.id s.uses) then None
    else Some (record s { uses = set_use s.uses a v; waits = None })

-- the word is the value of the positional that was found; without one the reading stops
abbrev pub as_positional : Stand → Text → Option Rule → Option Stand
as_positional s word None = None
as_positional s word (Some a) = with_use (record s { place = min (s.place + 1) usize_max }) a word

-- an option has the value of its own word, or waits for the next one
abbrev pub as_option : Stand → Rule → Option Text → Option Stand
as_option s a (Some v) = with_use s a v
as_option s a None = Some (record s { waits = Some a })

-- a flag takes no value, and its use is the text `true`
abbrev pub as_flag : Stand → Rule → Option Text → Option Stand
as_flag s a (Some v) = None
as_flag s a None = with_use s a (codes "true")

-- the option or the flag that was found by its name; without one the reading stops
abbrev pub as_named : Stand → Option Text → Option Rule → Option Stand
as_named s v None = None
as_named s v (Some a) = if takes_values a then as_option s a v else as_flag s a v

-- a word that is a value, where it can be one
abbrev pub as_value : Stand → Rule → (word : Text) → View word → Option Stand
as_value s a word (ending e d) = None
as_value s a word (long n v e l d) = None
as_value s a word (short y ys c e l h is d) = None
as_value s a word (torn y ys e l h is d) = with_use s a word
as_value s a word (dash e l h d) = with_use s a word
as_value s a word (clean e l h d) = with_use s a word

module _ (rules : List Rule) where
  -- a word before the options end
  abbrev pub as_seen : Stand → (word : Text) → View word → Option Stand
  as_seen s word (ending e d) = Some (record s { ended = true })
  as_seen s word (long n v e l d) = as_named s v (arg_by_long rules n)
  as_seen s word (short y ys c e l h is d) = None
  as_seen s word (torn y ys e l h is d) = as_positional s word (arg_by_index rules s.place)
  as_seen s word (dash e l h d) = as_positional s word (arg_by_index rules s.place)
  as_seen s word (clean e l h d) = as_positional s word (arg_by_index rules s.place)

  -- one more word, where an argument waits for it, or where none does
  abbrev pub next_seen : Stand → (word : Text) → View word → Option Rule → Option Stand
  next_seen s word seen (Some a) = as_value s a word seen
  next_seen s word seen None =
      if s.ended then as_positional s word (arg_by_index rules s.place) else as_seen s word seen

module _ (name : Text) (rules : List Rule) where
  -- the end, where nothing waits
  abbrev pub rows_at_end : List Use → Option (List Row)
  rows_at_end uses =
      let rows = fold with_default (rows_by uses) rules in
      unless_fault (or_else (defaults_fault (rows_by uses) rules)
      (check_fault (shape_by name rules) rows false)) rows

  -- no more words: no matches where an argument still waits
  abbrev pub end_seen : Stand → Option (List Row)
  end_seen s = if is_some s.waits then None else rows_at_end s.uses

  -- the matches of these words, read from where the reading stands
  abbrev pub read_seen : Stand → List Text → Option (List Row)
  read_seen s [] = end_seen s
  read_seen s (word ∷ words) =
      option_and_then (λ t. read_seen t words) (next_seen rules s word (view word) s.waits)
