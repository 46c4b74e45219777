-- The rules of a form as the parser builds them, and what it finds by them.
use Rattle.std.proofs.Common.{◌≡◌, ◌∙◌, ◌+◌, ◌||◌, ◌<◌, arith, refl, sym, subst, ap, inl, inr, ℕ, zero, suc, true, false, List, [], ◌∷◌, ◌++◌, map, slice_get, Option, Some, None, option_map}
use Rattle.command_line.proofs.Prelude.{option_to_list, bytes_eq, cases_Bool, false≢true, or_parts, common_steps, or-true, list_any-append, Rule, Text, arg_by_id, arg_by_index, arg_by_long, arg_by_short, Form, IsSimple, Valued, are_distinct, has_name, option_names}
use Rattle.command_line.proofs.Names.{Parted, apart_back, bytes_same, head_apart, parted, place_of, placed_has, same_text}
use Rattle.command_line.proofs.Uses.{flag_filled, value_rule}
use Rattle.command_line.proofs.Defaults.{AllPlain, Plain, plain_append}
use Rattle.command_line.proofs.RuleLooks.{Known, Looks, OneValue, flag, no_flag, unknown, valued}

-- the rule of the option of this name and default, as the parser builds it
abbrev pub own_rule : Text → Option Text → Rule
own_rule name default = value_rule name (Some name) None (option_to_list default) false

-- the rule of an option, as the parser builds it
abbrev pub option_filled : Valued → Rule
option_filled o = own_rule o.name o.default

-- the rule of a positional at this place, as the parser builds it
abbrev pub positional_filled : ℕ → Text → Rule
positional_filled place id = value_rule id None (Some place) [] true

-- the rules of positionals at the places from this one on
abbrev pub positionals_from : ℕ → List Text → List Rule
positionals_from place [] = []
positionals_from place (id ∷ ids) = positional_filled place id ∷ positionals_from (place + 1) ids

-- the rules of these options, and then the rest
abbrev pub options_before : List Valued → List Rule → List Rule
options_before options rest = map option_filled options ++ rest

-- the rules of these flags, and then the rest
abbrev pub flags_before : List Text → List Rule → List Rule
flags_before flags rest = map flag_filled flags ++ rest

-- the rules of the form, with these names for its positionals
abbrev pub rules_by : Form → List Text → List Rule
rules_by form ids = options_before form.options (flags_before form.flags (positionals_from 1 ids))

-- ---- by its long name

-- the option of this name, with its default
pub data Sought (name : Text) (options : List Valued) (rest : List Rule) : Type 0 where
  found : (i : ℕ) (d : Option Text) → place_of name (map (λ o. o.name) options) ≡ Some i
      → arg_by_long (options_before options rest) name ≡ Some (own_rule name d)
      → arg_by_id (options_before options rest) name ≡ Some (own_rule name d)
      → Sought name options rest
  missing : place_of name (map (λ o. o.name) options) ≡ None
      → arg_by_long (options_before options rest) name ≡ arg_by_long rest name
      → arg_by_id (options_before options rest) name ≡ arg_by_id rest name
      → Sought name options rest

-- the first option is found by its own name
sought_here : (name : Text) (o : Valued) (os : List Valued) (rest : List Rule)
    → bytes_eq o.name name ≡ true → Sought name (o ∷ os) rest
sought_here name o os rest a =
    let same : option_filled o ≡ own_rule name o.default =
    ap (λ n. own_rule n o.default) (same_text o.name name a) in
    found 0 o.default (rw a refl) (rw a (ap (λ r. Some r) same)) (rw a (ap (λ r. Some r) same))

-- by another name than that of the first option, what is found is found behind it
sought_later : (name : Text) (o : Valued) (os : List Valued) (rest : List Rule)
    → bytes_eq o.name name ≡ false → Sought name os rest → Sought name (o ∷ os) rest
sought_later name o os rest a (found i d p l n) = found (suc i) d (rw (a, p) refl) (rw a l) (rw a n)
sought_later name o os rest a (missing p l n) = missing (rw (a, p) refl) (rw a l) (rw a n)

-- by each name an option is found at its place, or what the rest has of that name
pub sought : (name : Text) (options : List Valued) (rest : List Rule) → Sought name options rest
sought name [] rest = missing refl refl refl
sought name (o ∷ os) rest = elim (cases_Bool (bytes_eq o.name name)) [
  | inl a ↦ sought_here name o os rest a
  | inr a ↦ sought_later name o os rest a (sought name os rest)
]

-- the flag of this name
pub data SoughtFlag (name : Text) (flags : List Text) (rest : List Rule) : Type 0 where
  found_flag : (j : ℕ) → place_of name flags ≡ Some j
      → arg_by_long (flags_before flags rest) name ≡ Some (flag_filled name)
      → SoughtFlag name flags rest
  missing_flag : place_of name flags ≡ None
      → arg_by_long (flags_before flags rest) name ≡ arg_by_long rest name
      → arg_by_id (flags_before flags rest) name ≡ arg_by_id rest name → SoughtFlag name flags rest

-- by another name than that of the first flag, what is found is found behind it
flag_later : (name f : Text) (fs : List Text) (rest : List Rule) → bytes_eq f name ≡ false
    → SoughtFlag name fs rest → SoughtFlag name (f ∷ fs) rest
flag_later name f fs rest a (found_flag j p l) = found_flag (suc j) (rw (a, p) refl) (rw a l)
flag_later name f fs rest a (missing_flag p l n) = missing_flag (rw (a, p) refl) (rw a l) (rw a n)

-- by each name a flag is found at its place, or what the rest has of that name
pub sought_flag : (name : Text) (flags : List Text) (rest : List Rule) → SoughtFlag name flags rest
sought_flag name [] rest = missing_flag refl refl refl
sought_flag name (f ∷ fs) rest = elim (cases_Bool (bytes_eq f name)) [
  | inl a ↦ found_flag 0 (rw a refl) (rw a (ap (λ n. Some (flag_filled n)) (same_text f name a)))
  | inr a ↦ flag_later name f fs rest a (sought_flag name fs rest)
]

-- no positional is found by a long name
no_positional : (name : Text) (place : ℕ) (ids : List Text)
    → arg_by_long (positionals_from place ids) name ≡ None
no_positional name place [] = refl
no_positional name place (id ∷ ids) = no_positional name (place + 1) ids

-- ---- by its place

-- of positionals that are numbered from s, the one at place s + k is that of the id at k
counted : (ids : List Text) (s place k : ℕ) → place ≡ s + k
    → arg_by_index (positionals_from s ids) place ≡ option_map (λ id. positional_filled place id)
    (slice_get ids k)
counted [] s place k is = refl
counted (id ∷ ids) s place zero is = grind (arith, common_steps)
counted (id ∷ ids) s place (suc k) is = grind (arith, common_steps, counted ids (s + 1) place k)

-- positionals that are numbered from 1 or more have none at place 0
before_first : (ids : List Text) (s : ℕ) → 0 < s → arg_by_index (positionals_from s ids) 0 ≡ None
before_first [] s less = refl
before_first (id ∷ ids) s less = grind (arith, common_steps, before_first ids (s + 1))

-- options have no place, so what is found by a place stands behind them
skip_options : (place : ℕ) (options : List Valued) (rest : List Rule)
    → arg_by_index (options_before options rest) place ≡ arg_by_index rest place
skip_options place [] rest = refl
skip_options place (o ∷ os) rest = skip_options place os rest

-- flags have no place, so what is found by a place stands behind them
skip_flags : (place : ℕ) (flags : List Text) (rest : List Rule)
    → arg_by_index (flags_before flags rest) place ≡ arg_by_index rest place
skip_flags place [] rest = refl
skip_flags place (f ∷ fs) rest = skip_flags place fs rest

-- in the rules of the form, the positional at place k + 1 is that of the id at k
pub at_index : (form : Form) (ids : List Text) (k : ℕ)
    → arg_by_index (rules_by form ids) (k + 1) ≡ option_map (λ id. positional_filled (k + 1) id)
    (slice_get ids k)
at_index form ids k =
    skip_options (k + 1) form.options (flags_before form.flags (positionals_from 1 ids))
    ∙ skip_flags (k + 1) form.flags (positionals_from 1 ids) ∙ counted ids 1 (k + 1) k (omega arith)

-- ---- by its id

-- an id that stands at some place of a list is one of the list
pub get_has : (ids : List Text) (k : ℕ) (id : Text) → slice_get ids k ≡ Some id
    → has_name id ids ≡ true
get_has [] k id is = cc
get_has (x ∷ xs) zero id is = grind (arith, common_steps, bytes_same id)
get_has (x ∷ xs) (suc k) id is = rw (get_has xs k id is) (or-true (bytes_eq x id))

-- positionals with distinct ids are found by them, each at its own place
own_positional : (ids : List Text) (s k : ℕ) (id : Text) → are_distinct ids ≡ true
    → slice_get ids k ≡ Some id → (place : ℕ) → place ≡ s + k
    → arg_by_id (positionals_from s ids) id ≡ Some (positional_filled place id)
own_positional [] s k id one is place at = cc
own_positional (x ∷ xs) s zero id one is place at = grind (arith, common_steps, bytes_same id)
own_positional (x ∷ xs) s (suc k) id one is place at =
    let rest = own_positional xs (s + 1) k id (head_apart x xs one).1 is place (omega arith) in
    grind (arith, common_steps, rest, same_text x id, (head_apart x xs one).0, get_has xs k id is)

-- ---- the look-ups

module _ (form : Form) (ids : List Text) (simple : IsSimple form ids) where
  -- the options' names are distinct, and none is that of a flag or a positional
  pub options_parted : Parted (option_names form) (form.flags ++ ids)
  options_parted = parted (option_names form) (form.flags ++ ids) simple.names

  -- the flags' names are distinct, and none is that of a positional
  pub flags_parted : Parted form.flags ids
  flags_parted = parted form.flags ids options_parted.second

  -- the name of a flag or a positional is none of the options' names
  pub no_option : (name : Text) → has_name name (form.flags ++ ids) ≡ true
      → has_name name (option_names form) ≡ false
  no_option name h = apart_back (option_names form) (form.flags ++ ids) options_parted name h

  -- a flag is no option and no positional
  pub flag_is_no_option : (name : Text) → has_name name form.flags ≡ true
      → has_name name (option_names form) ≡ false
  flag_is_no_option name h =
      no_option name (list_any-append (λ m. bytes_eq m name) form.flags ids
      ∙ ap (λ b. b || has_name name ids) h)

  -- the name of a positional is none of the flags' names
  pub positional_is_no_flag : (name : Text) → has_name name ids ≡ true
      → has_name name form.flags ≡ false
  positional_is_no_flag name h = apart_back form.flags ids flags_parted name h

  -- nor one of the options' names
  pub positional_is_no_option : (name : Text) → has_name name ids ≡ true
      → has_name name (option_names form) ≡ false
  positional_is_no_option name h =
      no_option name (list_any-append (λ m. bytes_eq m name) form.flags ids
      ∙ ap (λ b. b || has_name name ids) (positional_is_no_flag name h) ∙ h)

  -- the name of an option is none of the flags' names and none of the positionals'
  pub option_is_no_other : (name : Text) → has_name name (option_names form) ≡ true
      → (has_name name form.flags ≡ false) × (has_name name ids ≡ false)
  option_is_no_other name h = or_parts (has_name name form.flags) (has_name name ids)
      (sym (list_any-append (λ m. bytes_eq m name) form.flags ids) ∙ options_parted.apart name h)

  -- by an id that is no option, what is found is found behind the options
  past_options : (id : Text) → has_name id (option_names form) ≡ false
      → Sought id form.options (flags_before form.flags (positionals_from 1 ids))
      → arg_by_id (rules_by form ids) id
      ≡ arg_by_id (flags_before form.flags (positionals_from 1 ids)) id
  past_options id none (found i d p l n) =
      absurd (false≢true (sym none ∙ placed_has id (option_names form) i p))
  past_options id none (missing p l n) = n

  -- by an id that is no flag, what is found is found behind the flags
  past_flags : (id : Text) → has_name id form.flags ≡ false
      → SoughtFlag id form.flags (positionals_from 1 ids)
      → arg_by_id (flags_before form.flags (positionals_from 1 ids)) id
      ≡ arg_by_id (positionals_from 1 ids) id
  past_flags id none (found_flag j p l) =
      absurd (false≢true (sym none ∙ placed_has id form.flags j p))
  past_flags id none (missing_flag p l n) = n

  -- in the rules of the form, the id at k finds the positional at place k + 1
  pub positional_id : (k : ℕ) (id : Text) → slice_get ids k ≡ Some id
      → arg_by_id (rules_by form ids) id ≡ Some (positional_filled (k + 1) id)
  positional_id k id is =
      let h : has_name id ids ≡ true = get_has ids k id is in
      past_options id (positional_is_no_option id h)
      (sought id form.options (flags_before form.flags (positionals_from 1 ids)))
      ∙ past_flags id (positional_is_no_flag id h)
      (sought_flag id form.flags (positionals_from 1 ids))
      ∙ own_positional ids 1 k id flags_parted.second is (k + 1) (omega arith)

  -- which option or flag a name is
  pub data Named (name : Text) : Type 0 where
    is_option : (i : ℕ) (d : Option Text) → place_of name (option_names form) ≡ Some i
        → arg_by_long (rules_by form ids) name ≡ Some (own_rule name d)
        → arg_by_id (rules_by form ids) name ≡ Some (own_rule name d) → Named name
    is_flag : (j : ℕ) → place_of name (option_names form) ≡ None → place_of name form.flags ≡ Some j
        → arg_by_long (rules_by form ids) name ≡ Some (flag_filled name) → Named name
    is_none : place_of name (option_names form) ≡ None → place_of name form.flags ≡ None
        → arg_by_long (rules_by form ids) name ≡ None → Named name

  -- a name that is no option is a flag or neither
  named_flag : (name : Text) → place_of name (option_names form) ≡ None
      → arg_by_long (rules_by form ids) name
      ≡ arg_by_long (flags_before form.flags (positionals_from 1 ids)) name
      → SoughtFlag name form.flags (positionals_from 1 ids) → Named name
  named_flag name none skip (found_flag j p l) = is_flag j none p (skip ∙ l)
  named_flag name none skip (missing_flag p l n) =
      is_none none p (skip ∙ l ∙ no_positional name 1 ids)

  -- a name that was sought among the options is an option, a flag or neither
  named_by : (name : Text)
      → Sought name form.options (flags_before form.flags (positionals_from 1 ids)) → Named name
  named_by name (found i d p l n) = is_option i d p l n
  named_by name (missing p l n) =
      named_flag name p l (sought_flag name form.flags (positionals_from 1 ids))

  -- each name is an option of the form, a flag of the form or neither
  pub named : (name : Text) → Named name
  named name =
      named_by name (sought name form.options (flags_before form.flags (positionals_from 1 ids)))

  -- by such a name the parser finds an argument with one value, a flag or nothing
  known_by : (name : Text) → Named name
      → Known (rules_by form ids) (arg_by_long (rules_by form ids) name)
  known_by name (is_option i d p l n) =
      no_flag (valued name (Some name) None (option_to_list d) false l n)
  known_by name (is_flag j n p l) = flag name l
  known_by name (is_none n p l) = no_flag (unknown l)

  -- at place k + 1 the parser finds the positional of the id at k, or nothing past the last id
  placed_by : (k : ℕ) (at : Option Text) → slice_get ids k ≡ at
      → OneValue (rules_by form ids) (arg_by_index (rules_by form ids) (k + 1))
  placed_by k None is =
      unknown (at_index form ids k ∙ ap (λ o. option_map (λ id. positional_filled (k + 1) id) o) is)
  placed_by k (Some id) is = valued id None (Some (k + 1)) [] true
      (at_index form ids k ∙ ap (λ o. option_map (λ id. positional_filled (k + 1) id) o) is)
      (positional_id k id is)

  -- at each place the parser finds a positional, which its id finds too, or nothing
  placed_at : (place : ℕ) → OneValue (rules_by form ids) (arg_by_index (rules_by form ids) place)
  placed_at zero =
      unknown (skip_options 0 form.options (flags_before form.flags (positionals_from 1 ids))
      ∙ skip_flags 0 form.flags (positionals_from 1 ids) ∙ before_first ids 1 (omega arith))
  placed_at (suc k) =
      let next : k + 1 ≡ suc k = omega arith in
      subst (λ n. OneValue (rules_by form ids) (arg_by_index (rules_by form ids) n)) next
      (placed_by k (slice_get ids k) refl)

  -- no argument is found by a short name
  no_short : (c : ℕ) → arg_by_short (rules_by form ids) c ≡ None
  no_short c = short_options form.options ∙ short_flags form.flags ∙ short_positionals 1 ids
    where
      short_options : (options : List Valued)
          → arg_by_short (options_before options (flags_before form.flags (positionals_from 1 ids)))
          c ≡ arg_by_short (flags_before form.flags (positionals_from 1 ids)) c
      short_options [] = refl
      short_options (o ∷ os) = short_options os

      short_flags : (flags : List Text)
          → arg_by_short (flags_before flags (positionals_from 1 ids)) c
          ≡ arg_by_short (positionals_from 1 ids) c
      short_flags [] = refl
      short_flags (f ∷ fs) = short_flags fs

      short_positionals : (place : ℕ) (ids : List Text)
          → arg_by_short (positionals_from place ids) c ≡ None
      short_positionals place [] = refl
      short_positionals place (id ∷ ids) = short_positionals (place + 1) ids

  -- what the parser finds by the rules of the form, by a long name, a place or a short name
  pub looks : Looks (rules_by form ids)
  looks = record {
    by_long = λ name. known_by name (named name);
    by_index = placed_at;
    by_short = no_short;
  }

-- ---- the defaults

-- an option has one default at most, which the parser takes
plain_option : (name : Text) (d : Option Text) → Plain (own_rule name d)
plain_option name None = record { one = refl; taken = λ rows. grind (arith, common_steps) }
plain_option name (Some v) = record { one = refl; taken = λ rows. grind (arith, common_steps) }

-- so it is with each of the options
plain_options : (options : List Valued) → AllPlain (map option_filled options)
plain_options [] = tt
plain_options (o ∷ os) = (plain_option o.name o.default, plain_options os)

-- each flag has one default, which the parser takes
plain_flags : (flags : List Text) → AllPlain (map flag_filled flags)
plain_flags [] = tt
plain_flags (f ∷ fs) =
    (record { one = refl; taken = λ rows. grind (arith, common_steps) }, plain_flags fs)

-- no positional has a default, so there is none that the parser could refuse
plain_positionals : (place : ℕ) (ids : List Text) → AllPlain (positionals_from place ids)
plain_positionals place [] = tt
plain_positionals place (id ∷ ids) = (
  record { one = refl; taken = λ rows. grind (arith, common_steps) },
  plain_positionals (place + 1) ids,
)

-- so each rule of a form has one default at most, which the parser takes
pub all_plain : (form : Form) (ids : List Text) → AllPlain (rules_by form ids)
all_plain form ids = plain_append (map option_filled form.options)
    (flags_before form.flags (positionals_from 1 ids)) (plain_options form.options)
    (plain_append (map flag_filled form.flags) (positionals_from 1 ids) (plain_flags form.flags)
    (plain_positionals 1 ids))
