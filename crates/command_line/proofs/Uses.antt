-- What stands for an argument, and the parser's rows of it.
use Rattle.std.proofs.Common.{◌≡◌, arith, refl, ap, Bool, true, false, is_some, List, [], ◌∷◌, ◌++◌, map, Option, Some, None, codes}
use Rattle.std.specs.Prelude.{ℕ, if◌then◌else◌}
use Rattle.command_line.proofs.Prelude.{bytes_eq, common_steps, Row, Rule, Text, first_of, has_row, reading_by, used, with_values, without, CommandLine}
use Rattle.clap.specs.declared.builder.action.ArgAction.TheVariants.{Set, SetTrue}
use Rattle.clap.specs.declared.builder.value_parser.ValueParser.TheVariants as vp
use Rattle.clap.specs.declared.builder.value_parser.Reading.{Reading}
use Rattle.clap.specs.declared.parser.matches.ValueSource.{ValueSource}

-- an argument with one value
abbrev pub value_rule : Text → Option Text → Option ℕ → List Text → Bool → Rule
value_rule id long index defaults required = record {
  id = id;
  long = long;
  aliases = [];
  short = None;
  short_aliases = [];
  index = index;
  action = Some Set;
  range = Some (record { start_inclusive = 1; end_inclusive = 1 });
  value_names = 0;
  defaults = defaults;
  missing = [];
  trailing_var_arg = false;
  parser = Some vp.String;
  ignore_case = false;
  required = required;
  is_simple = true;
  is_free = true;
}

-- a flag
abbrev pub flag_filled : Text → Rule
flag_filled id = record (value_rule id (Some id) None (codes "false" ∷ []) false) {
  action = Some SetTrue;
  range = Some (record { start_inclusive = 0; end_inclusive = 0 });
  missing = codes "true" ∷ [];
  parser = Some vp.Bool;
}

-- one use of an argument, or its default
pub record Use : Type 0 where
  pub id : Text
  pub value : Text
  pub source : ValueSource
  pub how : Reading

-- a use of the argument by the words, with this value
abbrev pub use_of : Rule → Text → Use
use_of a v = record { id = a.id; value = v; source = CommandLine; how = reading_by a }

-- one more use
abbrev pub set_use : List Use → Rule → Text → List Use
set_use uses a v = uses ++ use_of a v ∷ []

-- the parser's row of a use
abbrev pub row_by : Use → Row
row_by u = record {
  id = u.id;
  values = u.value ∷ [];
  count = None;
  source = Some u.source;
  reading = u.how;
}

-- the parser's rows of these uses
abbrev pub rows_by : List Use → List Row
rows_by uses = map row_by uses

-- the first value of this id
abbrev pub value_in : Text → List Use → Option Text
value_in id [] = None
value_in id (u ∷ us) = if bytes_eq u.id id then Some u.value else value_in id us

-- an id has a row of the uses just where it has a value
pub row_is : (id : Text) (uses : List Use) → has_row id (rows_by uses) ≡ is_some (value_in id uses)
row_is id [] = refl
row_is id (u ∷ us) = grind (arith, common_steps, row_is id us)

-- the first value of an id in the rows of the uses is its value
pub first_is : (id : Text) (uses : List Use) → first_of id (rows_by uses) ≡ value_in id uses
first_is id [] = refl
first_is id (u ∷ us) = grind (arith, common_steps, first_is id us)

-- an id without a value is not that of the first use, and has no value in the other uses
new_id : (id : Text) (u : Use) (us : List Use) → is_some (value_in id (u ∷ us)) ≡ false
    → (bytes_eq u.id id ≡ false) × (is_some (value_in id us) ≡ false)
new_id id u us none = (grind (arith, common_steps), grind (arith, common_steps))

-- taking away the row of an id that has no value changes nothing
without_none : (id : Text) (uses : List Use) → is_some (value_in id uses) ≡ false
    → without id (rows_by uses) ≡ rows_by uses
without_none id [] none = refl
without_none id (u ∷ us) none =
    let p = new_id id u us none in
    rw p.0 (ap (λ rows. row_by u ∷ rows) (without_none id us p.1))

-- the first value of an id comes into the rows as the row of one more use
pub appended : (u : Use) (uses : List Use) → is_some (value_in u.id uses) ≡ false
    → with_values u.id u.how u.source (u.value ∷ []) (rows_by uses) ≡ rows_by (uses ++ u ∷ [])
appended u [] none = refl
appended u (x ∷ xs) none =
    let p = new_id u.id x xs none in
    rw p.0 (ap (λ rows. row_by x ∷ rows) (appended u xs p.1))

-- a use of an argument with no use
pub used_value : (id : Text) (long : Option Text) (index : Option ℕ) (defaults : List Text)
    (required : Bool) (v : Text) (uses : List Use)
    → is_some (value_in id uses) ≡ false
    → used (value_rule id long index defaults required) (v ∷ []) (rows_by uses)
    ≡ rows_by (uses ++ use_of (value_rule id long index defaults required) v ∷ [])
used_value id long index defaults required v uses none =
    rw (without_none id uses none)
    (appended (use_of (value_rule id long index defaults required) v) uses none)

-- a use of a flag with no use, which gets the value `true`
pub used_flag : (id : Text) (uses : List Use) → is_some (value_in id uses) ≡ false
    → used (flag_filled id) [] (rows_by uses)
    ≡ rows_by (uses ++ use_of (flag_filled id) (codes "true") ∷ [])
used_flag id uses none =
    rw (without_none id uses none) (appended (use_of (flag_filled id) (codes "true")) uses none)
