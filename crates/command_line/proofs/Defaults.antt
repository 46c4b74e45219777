-- The matches with the defaults of what does not stand.
use Rattle.std.proofs.Common.{◌≡◌, arith, ◌∙◌, refl, ap, inl, inr, Bool, true, false, is_some, List, [], ◌∷◌, ◌++◌, fold, Option, Some, None}
use Rattle.std.specs.Prelude.{if◌then◌else◌, slice_get}
use Rattle.command_line.proofs.Prelude.{option_or, option_to_list, list_all, bytes_eq, cases_Bool, common_steps, Row, Rule, Text, default_rows, reading_by, with_default, is_given, explicit_source, default_fault, defaults_fault, DefaultValue}
use Rattle.command_line.proofs.Names.{same_text}
use Rattle.command_line.proofs.Uses.{Use, appended, row_is, rows_by, value_in}
use Rattle.command_line.proofs.UseLists.{value_new, value_other}

-- the first default
abbrev pub default_by : Rule → Option Text
default_by a = slice_get a.defaults 0

-- the default of the first argument of this id that has one
abbrev pub default_in : Text → List Rule → Option Text
default_in id [] = None
default_in id (a ∷ more) =
    if bytes_eq a.id id then option_or (default_by a) (default_in id more) else default_in id more

-- this default as a use of the argument
abbrev pub default_use : Rule → Text → Use
default_use a v = record { id = a.id; value = v; source = DefaultValue; how = reading_by a }

-- the uses, and this default of the argument behind them, where there is one
abbrev pub or_default : List Use → Rule → Option Text → List Use
or_default uses a None = uses
or_default uses a (Some v) = uses ++ default_use a v ∷ []

-- an argument without a use gets its default as one, if it has a default
abbrev pub add_default : List Use → Rule → List Use
add_default uses a = if is_some (value_in a.id uses) then uses else or_default uses a (default_by a)

-- an argument with one default at most, which the parser takes
pub record Plain (a : Rule) : Type 0 where
  pub one : a.defaults ≡ option_to_list (default_by a)
  pub taken : (rows : List Row) → default_fault rows a ≡ []

-- each of these arguments has one default at most, which the parser takes
abbrev pub AllPlain : List Rule → Type 0
AllPlain [] = Unit {0}
AllPlain (a ∷ more) = Plain a × AllPlain more

-- two lists of such arguments, one behind the other
pub plain_append : (more rest : List Rule) → AllPlain more → AllPlain rest → AllPlain (more ++ rest)
plain_append [] rest p q = q
plain_append (a ∷ more) rest p q = (p.0, plain_append more rest p.1 q)

-- the parser adds the default of an argument without a use as the row of one more use
one_default : (uses : List Use) (a : Rule) (d : Option Text) → is_some (value_in a.id uses) ≡ false
    → default_rows a.id (reading_by a) (option_to_list d) (rows_by uses)
    ≡ rows_by (or_default uses a d)
one_default uses a None none = refl
one_default uses a (Some v) none = appended (default_use a v) uses none

-- so the parser's rows with an argument's default are those of the uses with it
with_default_is : (uses : List Use) (a : Rule) → Plain a
    → with_default (rows_by uses) a ≡ rows_by (add_default uses a)
with_default_is uses a p = elim (cases_Bool (is_some (value_in a.id uses))) [
  | inl b ↦ rw (row_is a.id uses, b) refl
  | inr b ↦ rw (row_is a.id uses, b)
      (ap (λ ds. default_rows a.id (reading_by a) ds (rows_by uses)) p.one
      ∙ one_default uses a (default_by a) b)
]

-- and its rows with the defaults of all arguments are those of the uses with them
pub finished_is : (rules : List Rule) (uses : List Use) → AllPlain rules
    → fold with_default (rows_by uses) rules ≡ rows_by (fold add_default uses rules)
finished_is [] uses p = refl
finished_is (a ∷ more) uses p =
    ap (λ rows. fold with_default rows more) (with_default_is uses a p.0)
    ∙ finished_is more (add_default uses a) p.1

-- the defaults of such arguments have no fault
pub no_faults : (rules : List Rule) (rows : List Row) → AllPlain rules
    → defaults_fault rows rules ≡ []
unfolding defaults_fault
no_faults [] rows p = refl
no_faults (a ∷ more) rows p = rw (p.0.taken rows) (no_faults more (with_default rows a) p.1)

-- what one default changes
defaulted_one : (id : Text) (uses : List Use) (a : Rule) (d : Option Text)
    → is_some (value_in a.id uses) ≡ false
    → value_in id (or_default uses a d)
    ≡ (if bytes_eq a.id id then option_or (value_in id uses) d else value_in id uses)
defaulted_one id uses a None none = grind (arith, common_steps)
defaulted_one id uses a (Some v) none =
    grind (arith, common_steps, value_new id uses (default_use a v), value_other id uses (default_use a v), same_text a.id id)

-- an argument's default becomes the value of its own id, if that has none, and of no other id
defaulted : (id : Text) (uses : List Use) (a : Rule)
    → value_in id (add_default uses a)
    ≡ (if bytes_eq a.id id then option_or (value_in id uses) (default_by a) else value_in id uses)
defaulted id uses a =
    grind (arith, common_steps, defaulted_one id uses a (default_by a), same_text a.id id)

-- the value of each id at the end
pub value_at_end : (id : Text) (rules : List Rule) (uses : List Use)
    → value_in id (fold add_default uses rules) ≡ option_or (value_in id uses) (default_in id rules)
value_at_end id [] uses = grind (arith, common_steps)
value_at_end id (a ∷ more) uses = grind (arith, common_steps, value_at_end id more (add_default uses a), defaulted id uses a)

-- whether the words gave it
abbrev pub given_in : Text → List Use → Bool
given_in id [] = false
given_in id (u ∷ us) = if bytes_eq u.id id then explicit_source (Some u.source) else given_in id us

-- the parser counts an id as given just where the words gave it
given_is : (id : Text) (uses : List Use) → is_given id (rows_by uses) ≡ given_in id uses
given_is id [] = refl
given_is id (u ∷ us) = grind (arith, common_steps, given_is id us)

-- a default as one more use doesn't change whether the words gave an id
given_kept : (id : Text) (uses : List Use) (a : Rule) (v : Text)
    → given_in id (uses ++ default_use a v ∷ []) ≡ given_in id uses
given_kept id [] a v = grind (arith, common_steps)
given_kept id (u ∷ us) a v = rw (given_kept id us a v) refl

-- nor does a default that may be missing
given_or : (id : Text) (uses : List Use) (a : Rule) (d : Option Text)
    → given_in id (or_default uses a d) ≡ given_in id uses
given_or id uses a None = refl
given_or id uses a (Some v) = given_kept id uses a v

-- nor do the defaults of all arguments
given_at_end : (id : Text) (rules : List Rule) (uses : List Use)
    → given_in id (fold add_default uses rules) ≡ given_in id uses
given_at_end id [] uses = refl
given_at_end id (a ∷ more) uses = given_at_end id more (add_default uses a)
    ∙ grind (arith, common_steps, given_or id uses a (default_by a))

-- each use is one of the words
abbrev pub are_typed : List Use → Bool
are_typed uses = list_all (λ u. explicit_source (Some u.source)) uses

-- where each use is one of the words, the words gave an id just where it has a value
typed_given : (id : Text) (uses : List Use) → are_typed uses ≡ true
    → given_in id uses ≡ is_some (value_in id uses)
typed_given id [] t = refl
typed_given id (u ∷ us) t = grind (arith, common_steps, typed_given id us)

-- whether the parser takes it as given at the end
pub given_end : (id : Text) (rules : List Rule) (uses : List Use) → are_typed uses ≡ true
    → is_given id (rows_by (fold add_default uses rules)) ≡ is_some (value_in id uses)
given_end id rules uses t =
    given_is id (fold add_default uses rules) ∙ given_at_end id rules uses ∙ typed_given id uses t
