-- The end of the words, by the parser's rules of a form and by the form.
use Rattle.std.proofs.Common.{◌≡◌, ◌∙◌, ◌+◌, ◌&&◌, ◌<◌, ◌==◌, arith, refl, ap, ℕ, Bool, true, false, not, is_some, is_none, List, [], ◌∷◌, map, fold, zip, length, slice_get, Option, Some, None, option_map, option_and_then, codes}
use Rattle.std.specs.Prelude.{if◌then◌else◌}
use Rattle.command_line.proofs.Prelude.{option_or, option_to_list, list_any, bytes_eq, or_right, common_steps, Row, Rule, Text, first_of, with_default, is_given, defaults_fault, Form, IsSimple, Told, Valued, are_distinct, has_name, option_names, told_with_defaults, all_of, is_given_true, told_in}
use Rattle.std.proofs.lemmas.Bool.Decides.{nat_tests}
use Rattle.clap.specs.declared.error.kind.ErrorKind.TheVariants as kind
use Rattle.command_line.proofs.Names.{bytes_same, bytes_turned, head_apart}
use Rattle.command_line.proofs.Uses.{Use, first_is, rows_by, value_in}
use Rattle.command_line.proofs.UseLists.{seen}
use Rattle.command_line.proofs.Defaults.{add_default, default_in, finished_is, given_end, no_faults, value_at_end}
use Rattle.command_line.proofs.FormRules.{all_plain, flag_is_no_option, flags_before, option_filled, option_is_no_other, options_before, options_parted, positional_is_no_flag, positional_is_no_option, positionals_from, rules_by}
use Rattle.command_line.proofs.FormReading.{Fits, filled, flag_text, given}
use Rattle.command_line.proofs.RuleReading.{rows_at_end, unless_fault}

-- two functions that agree on the names
map_on : (names : List Text) (g h : Text → Option Text)
    → ((m : Text) → has_name m names ≡ true → g m ≡ h m) → map g names ≡ map h names
map_on [] g h same = refl
map_on (m ∷ ms) g h same =
    let head : g m ≡ h m = same m (rw (bytes_same m) refl) in
    let tail : map g ms ≡ map h ms =
    map_on ms g h (λ n is. same n (or_right (bytes_eq m n) (has_name n ms) is)) in
    cc

-- ---- which default a name has

-- a name that is no option has the default that the rules behind the options give it
none_in_options : (m : Text) (options : List Valued) (rest : List Rule)
    → has_name m (map (λ o. o.name) options) ≡ false
    → default_in m (options_before options rest) ≡ default_in m rest
none_in_options m [] rest none = refl
none_in_options m (o ∷ os) rest none = grind (arith, common_steps, none_in_options m os rest)

-- a name that is no flag has the default that the rules behind the flags give it
none_in_flags : (m : Text) (flags : List Text) (rest : List Rule) → has_name m flags ≡ false
    → default_in m (flags_before flags rest) ≡ default_in m rest
none_in_flags m [] rest none = refl
none_in_flags m (f ∷ fs) rest none = grind (arith, common_steps, none_in_flags m fs rest)

-- the rules of positionals give no name a default
none_in_positionals : (m : Text) (place : ℕ) (ids : List Text)
    → default_in m (positionals_from place ids) ≡ None
none_in_positionals m place [] = refl
none_in_positionals m place (id ∷ ids) =
    grind (arith, common_steps, none_in_positionals m (place + 1) ids)

-- a flag has the default `false`, whatever rules stand behind the flags
flag_default : (m : Text) (flags : List Text) (rest : List Rule) → has_name m flags ≡ true
    → default_in m (flags_before flags rest) ≡ Some (codes "false")
flag_default m [] rest h = cc
flag_default m (f ∷ fs) rest h = grind (arith, common_steps, flag_default m fs rest)

-- an option in front doesn't change the defaults of options with other names
skipped : (o : Valued) (ps : List Valued) (rest : List Rule)
    → has_name o.name (map (λ p. p.name) ps) ≡ false
    → map (λ p. default_in p.name (option_filled o ∷ rest)) ps
    ≡ map (λ p. default_in p.name rest) ps
skipped o [] rest none = refl
skipped o (p ∷ ps) rest none =
    grind (arith, common_steps, skipped o ps rest, bytes_turned o.name p.name)

-- the first of the list that a default makes is that default
listed : (d : Option Text) → option_or (slice_get (option_to_list d) 0) None ≡ d
listed None = refl
listed (Some v) = refl

-- options with distinct names have their own defaults, if the rules behind give them none
option_defaults : (options : List Valued) (rest : List Rule)
    → are_distinct (map (λ o. o.name) options) ≡ true
    → ((m : Text) → has_name m (map (λ o. o.name) options) ≡ true → default_in m rest ≡ None)
    → map (λ o. default_in o.name (options_before options rest)) options
    ≡ map (λ o. o.default) options
option_defaults [] rest one none = refl
option_defaults (o ∷ os) rest one none =
    let apart = head_apart o.name (map (λ p. p.name) os) one in
    let later : default_in o.name (options_before os rest) ≡ None =
    none_in_options o.name os rest apart.0 ∙ none o.name (rw (bytes_same o.name) refl) in
    let head : default_in o.name (options_before (o ∷ os) rest) ≡ o.default =
    rw (bytes_same o.name, later) (listed o.default) in
    let tail : map (λ p. default_in p.name (options_before (o ∷ os) rest)) os
    ≡ map (λ p. p.default) os =
    skipped o os (options_before os rest) apart.0
    ∙ option_defaults os rest apart.1
    (λ m is. none m (or_right (bytes_eq o.name m) (has_name m (map (λ p. p.name) os)) is)) in
    cc

-- ---- the parts of what is told

-- the options' values, with defaults found by name, are those with the defaults of the form
values_end : (options : List Valued) (uses : List Use) (look : Text → Option Text)
    → map (λ o. look o.name) options ≡ map (λ o. o.default) options
    → map (λ o. option_or (value_in o.name uses) (look o.name)) options
    ≡ map (λ pair. option_or pair.1 pair.0.default)
    (zip options (seen uses (map (λ o. o.name) options)))
values_end [] uses look is = refl
values_end (o ∷ os) uses look is = grind (arith, common_steps, values_end os uses look)

-- a flag's text, or else `false`, says whether the flag stands
flag_told : (b : Bool) → is_given_true (option_or (flag_text b) (Some (codes "false"))) ≡ b
flag_told true = refl
flag_told false = refl

-- so do the texts of all flags, where each has the default `false`
flags_end : (names : List Text) (bits : List Bool) (uses : List Use) (look : Text → Option Text)
    → seen uses names ≡ map flag_text bits
    → map look names ≡ map (λ m. Some (codes "false")) names
    → map (λ m. is_given_true (option_or (value_in m uses) (look m))) names ≡ bits
flags_end [] [] uses look is offs = refl
flags_end (m ∷ ms) (b ∷ bs) uses look is offs =
    grind (arith, common_steps, flag_told b, flags_end ms bs uses look)
flags_end _ _ uses look is offs = cc

-- with as many texts as positionals, each positional has its text
filled_full : (ids texts : List Text) → length texts ≡ length ids
    → (all_of (filled ids texts) ≡ Some texts) × (list_any is_none (filled ids texts) ≡ false)
filled_full [] [] is = (refl, refl)
filled_full (id ∷ ids) (t ∷ ts) is = let p = filled_full ids ts (omega arith) in (rw p.0 refl, p.1)
filled_full _ _ is = absurd (omega arith)

-- with fewer texts than positionals, some positional has none
filled_short : (ids texts : List Text) → length texts < length ids
    → (all_of (filled ids texts) ≡ None) × (list_any is_none (filled ids texts) ≡ true)
filled_short [] texts less = absurd (omega arith)
filled_short (id ∷ ids) [] less = (refl, refl)
filled_short (id ∷ ids) (t ∷ ts) less =
    let p = filled_short ids ts (omega arith) in (rw p.0 refl, p.1)

-- ---- the required positionals

-- no option is required, so an argument that is lacking stands behind the options
lacks_after_options : (rows : List Row) (options : List Valued) (rest : List Rule)
    → list_any (λ a. a.required && not (is_given a.id rows)) (options_before options rest)
    ≡ list_any (λ a. a.required && not (is_given a.id rows)) rest
lacks_after_options rows [] rest = refl
lacks_after_options rows (o ∷ os) rest = lacks_after_options rows os rest

-- no flag is required, so an argument that is lacking stands behind the flags
lacks_after_flags : (rows : List Row) (flags : List Text) (rest : List Rule)
    → list_any (λ a. a.required && not (is_given a.id rows)) (flags_before flags rest)
    ≡ list_any (λ a. a.required && not (is_given a.id rows)) rest
lacks_after_flags rows [] rest = refl
lacks_after_flags rows (f ∷ fs) rest = lacks_after_flags rows fs rest

-- one of the positionals is lacking just where one of their ids has no value
lacks_positional : (rows : List Row) (uses : List Use) (place : ℕ) (ids : List Text)
    → ((m : Text) → is_given m rows ≡ is_some (value_in m uses))
    → list_any (λ a. a.required && not (is_given a.id rows)) (positionals_from place ids)
    ≡ list_any is_none (seen uses ids)
lacks_positional rows uses place [] same = refl
lacks_positional rows uses place (id ∷ ids) same =
    rw (same id, lacks_positional rows uses (place + 1) ids same) refl

module _ (command : Text) (form : Form) (ids : List Text) (simple : IsSimple form ids) where
  -- the rules of the form
  abbrev rules : List Rule
  rules = rules_by form ids

  -- the parser's rows of these uses, with the defaults of what does not stand
  abbrev rows_at : List Use → List Row
  rows_at uses = fold with_default (rows_by uses) rules

  -- the value at the end
  abbrev pub ended : List Use → Text → Option Text
  ended uses m = option_or (value_in m uses) (default_in m rules)

  -- what the values of the form's names tell, which are looked up in this way
  abbrev pub told_with : (Text → Option Text) → Option Told
  told_with look = option_map (λ texts. record {
    positionals = texts;
    values = map (λ o. look o.name) form.options;
    flags = map (λ f. is_given_true (look f)) form.flags;
  }) (all_of (map look ids))

  -- the first value of a name in the rows at the end is its value at the end
  pub first_at_end : (uses : List Use) (m : Text) → first_of m (rows_at uses) ≡ ended uses m
  first_at_end uses m = ap (first_of m) (finished_is rules uses (all_plain form ids))
      ∙ first_is m (fold add_default uses rules) ∙ value_at_end m rules uses

  -- the rows at the end tell what the values at the end tell
  pub told_at_end : (uses : List Use) → told_in form ids (rows_at uses) ≡ told_with (ended uses)
  told_at_end uses = λ i. told_with (λ m. first_at_end uses m i)

  -- a positional has no default in the rules of the form
  no_default : (m : Text) → has_name m ids ≡ true → default_in m rules ≡ None
  no_default m is =
      none_in_options m form.options (flags_before form.flags (positionals_from 1 ids))
      (positional_is_no_option form ids simple m is)
      ∙ none_in_flags m form.flags (positionals_from 1 ids)
      (positional_is_no_flag form ids simple m is)
      ∙ none_in_positionals m 1 ids

  -- the positionals' values at the end are those of the uses
  texts_end : (uses : List Use) → map (ended uses) ids ≡ seen uses ids
  texts_end uses = map_on ids (ended uses) (λ m. value_in m uses)
      (λ m is. rw (no_default m is) (grind (arith, common_steps)))

  -- the rules behind the options give no option a default
  option_default : (m : Text) → has_name m (option_names form) ≡ true
      → default_in m (flags_before form.flags (positionals_from 1 ids)) ≡ None
  option_default m is =
      none_in_flags m form.flags (positionals_from 1 ids)
      (option_is_no_other form ids simple m is).0 ∙ none_in_positionals m 1 ids

  -- an option's value at the end is that of its use, or else the form's default
  option_values : (uses : List Use) → map (λ o. ended uses o.name) form.options
      ≡ map (λ pair. option_or pair.1 pair.0.default)
      (zip form.options (seen uses (option_names form)))
  option_values uses = values_end form.options uses (λ m. default_in m rules)
      (option_defaults form.options (flags_before form.flags (positionals_from 1 ids))
      (options_parted form ids simple).first option_default)

  -- in the rules of the form each flag has the default `false`
  flag_off : (m : Text) → has_name m form.flags ≡ true → default_in m rules ≡ Some (codes "false")
  flag_off m is = none_in_options m form.options (flags_before form.flags (positionals_from 1 ids))
      (flag_is_no_option form ids simple m is)
      ∙ flag_default m form.flags (positionals_from 1 ids) is

  -- the flags that stand at the end are those that were used
  flag_values : (uses : List Use) (bits : List Bool) → seen uses form.flags ≡ map flag_text bits
      → map (λ m. is_given_true (ended uses m)) form.flags ≡ bits
  flag_values uses bits is = flags_end form.flags bits uses (λ m. default_in m rules) is
      (map_on form.flags (λ m. default_in m rules) (λ m. Some (codes "false")) flag_off)

  -- a required argument is lacking at the end just where a positional has no text
  lacking : {uses : List Use} {texts : List Text} {values : List (Option Text)}
      {flags : List Bool} → Fits form ids uses texts values flags
      → list_any (λ a. a.required && not (is_given a.id (rows_at uses))) rules
      ≡ list_any is_none (filled ids texts)
  lacking {uses = uses} f =
      lacks_after_options (rows_at uses) form.options
      (flags_before form.flags (positionals_from 1 ids))
      ∙ lacks_after_flags (rows_at uses) form.flags (positionals_from 1 ids)
      ∙ lacks_positional (rows_at uses) uses 1 ids
      (λ m. ap (is_given m) (finished_is rules uses (all_plain form ids))
      ∙ given_end m rules uses f.typed)
      ∙ ap (list_any is_none) f.texts_are

  -- the end gives no matches where a positional has no text, and else the rows at the end
  faults_at : {uses : List Use} {texts : List Text} {values : List (Option Text)}
      {flags : List Bool} → Fits form ids uses texts values flags → (b : Bool)
      → list_any is_none (filled ids texts) ≡ b
      → rows_at_end command rules uses ≡ (if b then None else Some (rows_at uses))
  faults_at {uses = uses} f b is =
      let ok : defaults_fault (rows_by uses) rules ≡ [] =
      no_faults rules (rows_by uses) (all_plain form ids) in
      let lack : list_any (λ a. a.required && not (is_given a.id (rows_at uses))) rules ≡ b =
      lacking f ∙ is in
      let here : rows_at_end command rules uses
      ≡ unless_fault (if b then kind.MissingRequiredArgument ∷ [] else []) (rows_at uses) =
      rw (ok, lack) refl in
      here ∙ grind (arith, common_steps)

  -- the end, where the uses are what was given
  pub end_agrees : {uses : List Use} {texts : List Text} {values : List (Option Text)}
      {flags : List Bool} → Fits form ids uses texts values flags → (over : Bool)
      → option_and_then (told_in form ids) (rows_at_end command rules uses)
      ≡ told_with_defaults form (given texts values flags None over)
  end_agrees {uses = uses} {texts = texts} {values = values} {flags = flags} f over = go (length texts == length ids) refl
    where
      go : (b : Bool) → (length texts == length ids) ≡ b
          → option_and_then (told_in form ids) (rows_at_end command rules uses)
          ≡ told_with_defaults form (given texts values flags None over)
      go true is =
          let full : length texts ≡ length ids = grind (arith, nat_tests) in
          let there = filled_full ids texts full in
          let counted : (length texts == form.positionals) ≡ true =
          rw (← simple.count) (grind (arith, nat_tests)) in
          let given_texts : all_of (map (ended uses) ids) ≡ Some texts =
          ap all_of (texts_end uses ∙ f.texts_are) ∙ there.0 in
          ap (option_and_then (told_in form ids)) (faults_at f false there.1) ∙ told_at_end uses
          ∙ rw (
            given_texts,
            option_values uses,
            f.values_are,
            flag_values uses flags f.flags_are,
            counted,
          ) refl
      go false is =
          let room = f.room in
          let less : length texts < length ids = grind (arith, nat_tests) in
          let there = filled_short ids texts less in
          let counted : (length texts == form.positionals) ≡ false =
          rw (← simple.count) (grind (arith, nat_tests)) in
          ap (option_and_then (told_in form ids)) (faults_at f true there.1) ∙ rw counted refl
