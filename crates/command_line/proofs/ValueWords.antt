-- What words make of an argument with one value that waits for it, or whose value isn't used yet.
use Rattle.std.proofs.Common.{◌≡◌, ◌∙◌, refl, sym, inl, inr, ℕ, Bool, true, false, is_some, List, [], ◌∷◌, Option, Some, None}
use Rattle.std.specs.Prelude.{option_and_then, if◌then◌else◌}
use Rattle.command_line.proofs.Prelude.{bytes_eq, cases_Bool, and-false, long_of, Row, Rule, Text, Walk, idle, walked, settled_rows, Held, value, word_met, has_row, bundle_met, arg_by_id, arg_by_long, arg_by_index, flags_fault, settle_fault, turn_fault, walk_fault, word_fault}
use Rattle.clap.specs.declared.error.kind.ErrorKind.TheVariants as kind
use Rattle.command_line.proofs.Uses.{Use, row_is, rows_by, set_use, used_value, value_in, value_rule}
use Rattle.command_line.proofs.RuleLooks.{Known, Looks, OneValue, flag, no_flag, unknown, valued}
use Rattle.command_line.proofs.RuleReading.{Stand, as_value, read_seen, stand, with_use}
use Rattle.command_line.proofs.WordViews.{View, view, ending, long, short, torn, dash, clean}
use Rattle.command_line.proofs.Names.{bytes_same}
use Rattle.command_line.proofs.WalkSteps.{Continues, idle_at, meets, more, parsed_from, pending_at, stops, top, waiting_at}

-- nothing in either case is nothing
none_either : {X : Type 0} (b : Bool) {x : Option X} → x ≡ None → (if b then None else x) ≡ None
none_either true is = refl
none_either false is = is

-- the argument was found by its id
module _ (command : Text) (rules : List Rule) (looks : Looks rules) (id : Text) (name : Option Text)
    (index : Option ℕ)
    (defaults : List Text) (required : Bool)
    (known : arg_by_id rules id ≡ Some (value_rule id name index defaults required)) where
  -- the rule of the argument
  abbrev own : Rule
  own = value_rule id name index defaults required

  -- where the walk stands once this value of the argument is used
  abbrev settled_at : List Use → Text → ℕ → Bool → Walk
  settled_at uses v place ended = idle_at (set_use uses own v) place ended

  -- where the reading stands, if the argument waits for its value
  abbrev waiting_stand : List Use → ℕ → Stand
  waiting_stand uses place = stand uses (Some own) place false

  -- what the walk holds, if these values of the argument aren't used yet
  abbrev held_at : List Use → List Text → Held
  held_at uses values = record { rows = rows_by uses; pending = Some (id, values); skip = 0 }

  -- to use this value is no fault, where the argument has no use
  fits : (uses : List Use) (v : Text) → is_some (value_in id uses) ≡ false
      → settle_fault rules false (held_at uses (v ∷ [])) ≡ []
  fits uses v fresh =
      let row : has_row id (rows_by uses) ≡ false = row_is id uses ∙ fresh in rw (known, row) refl

  -- it is a conflict, where the argument has a use
  clashes : (uses : List Use) (v : Text) → is_some (value_in id uses) ≡ true
      → settle_fault rules false (held_at uses (v ∷ [])) ≡ kind.ArgumentConflict ∷ []
  clashes uses v used =
      let row : has_row id (rows_by uses) ≡ true = row_is id uses ∙ used in rw (known, row) refl

  -- an argument that has to be used without a value is a fault
  lacks : (uses : List Use) → settle_fault rules false (held_at uses []) ≡ kind.InvalidValue ∷ []
  lacks uses = rw known refl

  -- the value comes into the rows as the argument's use, where it had none
  settles_to : (uses : List Use) (v : Text) → is_some (value_in id uses) ≡ false
      → settled_rows rules (Some (id, v ∷ [])) (rows_by uses) ≡ rows_by (set_use uses own v)
  settles_to uses v fresh = rw known (used_value id name index defaults required v uses fresh)

  -- what the walk makes of these words once this value is used, unless the argument has a use
  abbrev once_used : Bool → List Use → Text → ℕ → Bool → List Text → Option (List Row)
  once_used b uses v place ended words =
      if b then None else parsed_from command rules (settled_at uses v place ended) words

  -- the value is used by what comes next, or at the end
  used_end : (uses : List Use) (v : Text) (place : ℕ) (ended b : Bool)
      → is_some (value_in id uses) ≡ b
      → parsed_from command rules (pending_at id uses v place ended) []
      ≡ once_used b uses v place ended []
  unfolding walk_fault
  used_end uses v place ended true used = rw (clashes uses v used) refl
  used_end uses v place ended false fresh = rw (fits uses v fresh, settles_to uses v fresh) refl

  -- before a word as a positional, it makes no difference whether a first value is used yet, and a
  -- second gives no matches
  used_positional : (uses : List Use) (v : Text) (place : ℕ) (ended b : Bool) (word : Text)
      (words : List Text) → is_some (value_in id uses) ≡ b
      → word_met rules [] ended idle place word (held_at uses (v ∷ []))
      ≡ (held_at uses (v ∷ []), value)
      → word_fault (top command rules) [] ended idle word (held_at uses (v ∷ [])) ≡ []
      → word_met rules [] ended idle place word
      (settled_at uses v place ended).held
      ≡ ((settled_at uses v place ended).held, value)
      → word_fault (top command rules) [] ended idle word (settled_at uses v place ended).held
      ≡ []
      → OneValue rules (arg_by_index rules place)
      → parsed_from command rules (pending_at id uses v place ended) (word ∷ words)
      ≡ once_used b uses v place ended (word ∷ words)
  unfolding walked
  used_positional uses v place ended b word words is met passed met' passed' (unknown n) =
      stops command rules _ _ _ kind.UnknownArgument [] (rw (passed, met, n) refl)
      ∙ sym (none_either b (stops command rules _ _ _
      kind.UnknownArgument [] (rw (passed', met', n) refl)))
  used_positional uses v place ended true word words used met passed met' passed'
      (valued i l x d r p k) = stops command rules _ _ _ kind.ArgumentConflict []
      (rw (passed, met, p, and-false (bytes_eq id i), clashes uses v used) refl)
  used_positional uses v place ended false word words fresh met passed met' passed'
      (valued i l x d r p k) =
      meets command rules _ _ _ _
      (rw (passed, met, passed', met', p, and-false (bytes_eq id i), fits uses v fresh) refl)
      (rw (met, met', p, and-false (bytes_eq id i), settles_to uses v fresh) refl)

  -- nor before a word that names an option, a flag or neither
  used_named : (uses : List Use) (v : Text) (place : ℕ) (b : Bool) (word : Text)
      (words : List Text) (n : Text) (y : Option Text) → is_some (value_in id uses) ≡ b
      → bytes_eq word (45 ∷ 45 ∷ []) ≡ false → long_of word ≡ Some (n, y)
      → Known rules (arg_by_long rules n)
      → parsed_from command rules (pending_at id uses v place false) (word ∷ words)
      ≡ once_used b uses v place false (word ∷ words)
  unfolding walked
  used_named uses v place b word words n y is e l (no_flag (unknown u)) =
      stops command rules _ _ _ kind.UnknownArgument [] (rw (e, l, u) refl)
      ∙ sym (none_either b (stops command rules _ _ _ kind.UnknownArgument [] (rw (e, l, u) refl)))
  used_named uses v place true word words n (Some x) used e l (no_flag (valued i g p d r u k)) =
      stops command rules _ _ _ kind.ArgumentConflict [] (rw (e, l, u, clashes uses v used) refl)
  used_named uses v place true word words n None used e l (no_flag (valued i g p d r u k)) =
      stops command rules _ _ _ kind.ArgumentConflict [] (rw (e, l, u, clashes uses v used) refl)
  used_named uses v place false word words n (Some x) fresh e l (no_flag (valued i g p d r u k)) =
      meets command rules _ _ _ _ (rw (e, l, u, fits uses v fresh, settles_to uses v fresh) refl)
      (rw (e, l, u, settles_to uses v fresh) refl)
  used_named uses v place false word words n None fresh e l (no_flag (valued i g p d r u k)) =
      meets command rules _ _ _ _
      (rw (e, l, u, fits uses v fresh) refl) (rw (e, l, u, settles_to uses v fresh) refl)
  used_named uses v place b word words n (Some x) is e l (flag i u) =
      stops command rules _ _ _ kind.TooManyValues [] (rw (e, l, u) refl)
      ∙ sym (none_either b (stops command rules _ _ _ kind.TooManyValues [] (rw (e, l, u) refl)))
  used_named uses v place true word words n None used e l (flag i u) =
      stops command rules _ _ _ kind.ArgumentConflict [] (rw (e, l, u, clashes uses v used) refl)
  used_named uses v place false word words n None fresh e l (flag i u) =
      meets command rules _ _ _ _ (rw (e, l, u, fits uses v fresh, settles_to uses v fresh) refl)
      (rw (e, l, u, settles_to uses v fresh) refl)

  -- nor before any word, where the options haven't ended
  used_word : (uses : List Use) (v : Text) (place : ℕ) (b : Bool) (word : Text)
      (words : List Text) → is_some (value_in id uses) ≡ b
      → parsed_from command rules (pending_at id uses v place true) words
      ≡ once_used b uses v place true words → View word
      → parsed_from command rules (pending_at id uses v place false) (word ∷ words)
      ≡ once_used b uses v place false (word ∷ words)
  unfolding walked flags_fault bundle_met
  used_word uses v place true word words used ih (ending e d) =
      more command rules _ (pending_at id uses v place true) _ _ (rw e refl) (rw e refl) ∙ ih
  used_word uses v place false word words fresh ih (ending e d) =
      more command rules _ (pending_at id uses v place true) _ _ (rw e refl) (rw e refl) ∙ ih
      ∙ sym (more command rules _ (settled_at uses v place true) _ _ (rw e refl) (rw e refl))
  used_word uses v place b word words is ih (long n y e l d) =
      used_named uses v place b word words n y is e l (looks.by_long n)
  used_word uses v place b word words is ih (short y ys c e l h none d) =
      stops command rules _ _ _ kind.UnknownArgument [] (rw (e, l, h, none, looks.by_short c) refl)
      ∙ sym (none_either b (stops command rules _ _ _
      kind.UnknownArgument [] (rw (e, l, h, none, looks.by_short c) refl)))
  used_word uses v place b word words is ih (torn y ys e l h none d) =
      used_positional uses v place false b word words is (rw (e, l, h, none) refl)
      (rw (e, l, h, none) refl) (rw (e, l, h, none) refl) (rw (e, l, h, none) refl)
      (looks.by_index place)
  used_word uses v place b word words is ih (dash e l h d) =
      used_positional uses v place false b word words is (rw (e, l, h) refl)
      (rw (e, l, h) refl) (rw (e, l, h) refl) (rw (e, l, h) refl) (looks.by_index place)
  used_word uses v place b word words is ih (clean e l h d) =
      used_positional uses v place false b word words is (rw (e, l, h) refl)
      (rw (e, l, h) refl) (rw (e, l, h) refl) (rw (e, l, h) refl) (looks.by_index place)

  -- nor before any words
  pub after_value : (words : List Text) (uses : List Use) (v : Text) (place : ℕ) (ended b : Bool)
      → is_some (value_in id uses) ≡ b
      → parsed_from command rules (pending_at id uses v place ended) words
      ≡ (if b then None else parsed_from command rules (settled_at uses v place ended) words)
  after_value [] uses v place ended b is = used_end uses v place ended b is
  after_value (word ∷ words) uses v place true b is =
      used_positional uses v place true b word words is refl refl refl refl
      (looks.by_index place)
  after_value (word ∷ words) uses v place false b is =
      used_word uses v place b word words is (after_value words uses v place true b is)
      (view word)

  -- where the argument still waits for its value at the end, there are no matches
  pub lost_end : (uses : List Use) (place : ℕ) (ended : Bool)
      → parsed_from command rules (waiting_at id uses place ended) [] ≡ None
  unfolding walk_fault
  lost_end uses place ended = rw (lacks uses) refl

  -- nor are there where it waits after `--` and a word follows
  lost_word : (uses : List Use) (place : ℕ) (word : Text) (words : List Text)
      → OneValue rules (arg_by_index rules place)
      → parsed_from command rules (waiting_at id uses place true) (word ∷ words) ≡ None
  lost_word uses place word words (unknown n) = stops command rules _ _ _ kind.UnknownArgument []
      (rw n refl)
  lost_word uses place word words (valued i l x d r p k) =
      stops command rules _ _ _ kind.InvalidValue []
      (rw (p, and-false (bytes_eq id i), lacks uses) refl)

  -- nor where it waits after `--`, whatever words follow
  lost : (words : List Text) (uses : List Use) (place : ℕ)
      → parsed_from command rules (waiting_at id uses place true) words ≡ None
  lost [] uses place = lost_end uses place true
  lost (word ∷ words) uses place = lost_word uses place word words (looks.by_index place)

  -- where the argument waits, a word that names an option, a flag or neither gives no matches
  waits_named : (uses : List Use) (place : ℕ) (word : Text) (words : List Text) (n : Text)
      (y : Option Text)
      → bytes_eq word (45 ∷ 45 ∷ []) ≡ false → long_of word ≡ Some (n, y)
      → Known rules (arg_by_long rules n)
      → parsed_from command rules (waiting_at id uses place false) (word ∷ words) ≡ None
  waits_named uses place word words n y e l (no_flag (unknown u)) =
      stops command rules _ _ _ kind.UnknownArgument [] (rw (e, l, u) refl)
  waits_named uses place word words n (Some x) e l (no_flag (valued i g p d r u k)) =
      stops command rules _ _ _ kind.InvalidValue [] (rw (e, l, u, lacks uses) refl)
  waits_named uses place word words n None e l (no_flag (valued i g p d r u k)) =
      stops command rules _ _ _ kind.InvalidValue [] (rw (e, l, u, lacks uses) refl)
  waits_named uses place word words n (Some x) e l (flag i u) =
      stops command rules _ _ _ kind.TooManyValues [] (rw (e, l, u) refl)
  waits_named uses place word words n None e l (flag i u) =
      stops command rules _ _ _ kind.InvalidValue [] (rw (e, l, u, lacks uses) refl)

  -- a word that the walk takes as the value is used by the argument that waits, at most once
  waits_value : (uses : List Use) (place : ℕ) (word : Text) (words : List Text)
      → Continues command rules words
      → turn_fault (top command rules) [] (waiting_at id uses place false) word ≡ []
      → walked rules [] (waiting_at id uses place false) word ≡ pending_at id uses word place false
      → parsed_from command rules (waiting_at id uses place false) (word ∷ words)
      ≡ option_and_then (λ t. read_seen command rules t words)
      (with_use (waiting_stand uses place) own word)
  waits_value uses place word words ih fits goes =
      more command rules _ (pending_at id uses word place false) _ _ fits goes
      ∙ after_value words uses word place false (is_some (value_in id uses)) refl
      ∙ elim (cases_Bool (is_some (value_in id uses))) [
        | inl b ↦ rw b refl
        | inr b ↦ rw b (ih (set_use uses own word) place false)
      ]

  -- where the argument waits, the walk takes any word as the reading does
  pub waits_word : (uses : List Use) (place : ℕ) (word : Text) (words : List Text)
      → Continues command rules words
      → (seen : View word)
      → parsed_from command rules (waiting_at id uses place false) (word ∷ words)
      ≡ option_and_then (λ t. read_seen command rules t words)
      (as_value (waiting_stand uses place) own word seen)
  unfolding walked flags_fault bundle_met
  waits_word uses place word words ih (ending e d) =
      more command rules _ (waiting_at id uses place true) _ _ (rw e refl)
      (rw e refl) ∙ lost words uses place
  waits_word uses place word words ih (long n y e l d) =
      waits_named uses place word words n y e l (looks.by_long n)
  waits_word uses place word words ih (short y ys c e l h is d) =
      stops command rules _ _ _ kind.UnknownArgument [] (rw (e, l, h, is, looks.by_short c) refl)
  waits_word uses place word words ih (torn y ys e l h is d) =
      waits_value uses place word words ih (rw (e, l, h, is) refl)
      (rw (e, l, h, is, known, bytes_same id) refl)
  waits_word uses place word words ih (dash e l h d) =
      waits_value uses place word words ih (rw (e, l, h) refl)
      (rw (e, l, h, known, bytes_same id) refl)
  waits_word uses place word words ih (clean e l h d) =
      waits_value uses place word words ih (rw (e, l, h) refl)
      (rw (e, l, h, known, bytes_same id) refl)
