-- What the parser finds of arguments with one value and of flags, in a command with no short
-- options.
use Rattle.std.proofs.Common.{◌≡◌, ℕ, Bool, List, Option, Some, None}
use Rattle.command_line.proofs.Prelude.{Rule, Text, arg_by_id, arg_by_index, arg_by_long, arg_by_short}
use Rattle.command_line.proofs.Uses.{flag_filled, value_rule}

-- an argument with one value that was found
pub data OneValue (rules : List Rule) (found : Option Rule) : Type 0 where
  unknown : found ≡ None → OneValue rules found
  valued : (id : Text) (long : Option Text) (index : Option ℕ) (defaults : List Text)
      (required : Bool)
      → found ≡ Some (value_rule id long index defaults required)
      → arg_by_id rules id ≡ Some (value_rule id long index defaults required) → OneValue rules found

-- an argument that was found
pub data Known (rules : List Rule) (found : Option Rule) : Type 0 where
  flag : (id : Text) → found ≡ Some (flag_filled id) → Known rules found
  no_flag : OneValue rules found → Known rules found

-- the look-ups of a command with no short options
pub record Looks (rules : List Rule) : Type 0 where
  pub by_long : (name : Text) → Known rules (arg_by_long rules name)
  pub by_index : (place : ℕ) → OneValue rules (arg_by_index rules place)
  pub by_short : (c : ℕ) → arg_by_short rules c ≡ None
