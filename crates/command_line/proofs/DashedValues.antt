-- A value that begins with `-` stays to the end, where it is refused.
use Rattle.std.proofs.Common.{arith, ◌≡◌, ◌∙◌, ◌+◌, ◌||◌, refl, sym, ap, inl, inr, min, Bool, true, false, is_some, List, [], ◌∷◌, ◌++◌, map, fold, length, Option, Some, None, option_and_then, codes}
use Rattle.std.specs.Prelude.{if◌then◌else◌}
use Rattle.command_line.proofs.Prelude.{option_or, list_any, cases_Bool, common_steps, length-map, list_any-append, usize_max, Row, Rule, Text, arg_by_index, arg_by_long, takes_values, with_default, Kinds, Form, IsSimple, Told, Valued, has_name, option_names, begins_dashed, has_dashed, is_dashed, all_of, told_in, IsOf}
use Rattle.command_line.proofs.Names.{bytes_same, same_text}
use Rattle.command_line.proofs.Uses.{Use, rows_by, use_of, value_in}
use Rattle.command_line.proofs.UseLists.{seen, value_kept, value_new}
use Rattle.command_line.proofs.FormRules.{rules_by}
use Rattle.command_line.proofs.Defaults.{default_in}
use Rattle.command_line.proofs.FormEnd.{ended, told_at_end, told_with}
use Rattle.command_line.proofs.RuleReading.{Stand, as_flag, as_named, as_option, as_positional, as_seen, as_value, next_seen, read_seen, unless_fault, with_use}
use Rattle.command_line.proofs.WordViews.{View, view, ending, long, short, torn, dash, clean}

-- where all values are there, there are as many texts as values
all_length : (values : List (Option Text)) (texts : List Text) → all_of values ≡ Some texts
    → length texts ≡ length values
all_length [] texts is = grind (arith, common_steps)
all_length (None ∷ values) texts is = cc
all_length (Some v ∷ values) [] is = grind (arith, common_steps)
all_length (Some v ∷ values) (t ∷ ts) is = grind (arith, common_steps, all_length values ts)

-- ---- a value that begins with `-` is never lost

-- the value of one of these ids begins with `-`
abbrev pub spoilt_at : List Use → List Text → Bool
spoilt_at uses ids = list_any (λ m. is_dashed (value_in m uses)) ids

-- a value that begins with `-` is still the value of its id after one more use
dashed_kept : (m : Text) (uses : List Use) (u : Use) (found : Option Text) → value_in m uses ≡ found
    → is_dashed found ≡ true → is_dashed (value_in m (uses ++ u ∷ [])) ≡ true
dashed_kept m uses u None at is = cc
dashed_kept m uses u (Some v) at is = rw (value_kept m v uses u at) is

-- where the value of one of these ids begins with `-`, one still does after one more use
pub spoilt_kept : (ids : List Text) (uses : List Use) (u : Use) → spoilt_at uses ids ≡ true
    → spoilt_at (uses ++ u ∷ []) ids ≡ true
spoilt_kept [] uses u is = cc
spoilt_kept (m ∷ ms) uses u is =
    let kept = dashed_kept m uses u (value_in m uses) refl in
    grind (arith, common_steps, kept, spoilt_kept ms uses u)

-- and so does one after the first use of one of them, where its value begins with `-`
pub spoilt_new : (ids : List Text) (uses : List Use) (u : Use) → has_name u.id ids ≡ true
    → is_some (value_in u.id uses) ≡ false → begins_dashed u.value ≡ true
    → spoilt_at (uses ++ u ∷ []) ids ≡ true
spoilt_new [] uses u h none d = cc
spoilt_new (m ∷ ms) uses u h none d =
    let new = value_new u.id uses u (bytes_same u.id) none in
    grind (arith, common_steps, new, same_text m u.id, spoilt_new ms uses u)

-- a value that begins with `-` stands, whatever the default is
dashed_first : (x y : Option Text) → is_dashed x ≡ true → is_dashed (option_or x y) ≡ true
dashed_first None y is = cc
dashed_first (Some v) y is = is

-- whatever the defaults are, the value of one of the options still begins with `-`
spoilt_values : (options : List Valued) (uses : List Use) (look : Text → Option Text)
    → spoilt_at uses (map (λ o. o.name) options) ≡ true
    → list_any is_dashed (map (λ o. option_or (value_in o.name uses) (look o.name)) options) ≡ true
spoilt_values [] uses look is = cc
spoilt_values (o ∷ os) uses look is =
    let first = dashed_first (value_in o.name uses) (look o.name) in
    grind (arith, common_steps, first, spoilt_values os uses look)

-- whatever the defaults are, one of the positionals still begins with `-`, if all are there
spoilt_texts : (ids : List Text) (uses : List Use) (look : Text → Option Text) (texts : List Text)
    → spoilt_at uses ids ≡ true
    → all_of (map (λ m. option_or (value_in m uses) (look m)) ids) ≡ Some texts
    → list_any begins_dashed texts ≡ true
spoilt_texts [] uses look texts is all = cc
spoilt_texts (id ∷ ids) uses look [] is all = grind (arith, common_steps)
spoilt_texts (id ∷ ids) uses look (t ∷ ts) is all =
    let first = dashed_first (value_in id uses) (look id) in
    grind (arith, common_steps, first, spoilt_texts ids uses look ts)

module _ (command : Text) (form : Form) (ids : List Text) (simple : IsSimple form ids) (T : Type 0)
    (take : Told → Option T)
    (refuses : (told : Told) → IsOf form told → has_dashed told ≡ true → take told ≡ None) where
  -- the rules of the form
  abbrev rules : List Rule
  rules = rules_by form ids

  -- the parser's rows of these uses, with the defaults of what does not stand
  abbrev rows_at : List Use → List Row
  rows_at uses = fold with_default (rows_by uses) rules

  -- what is taken of what the matches tell, where there are matches
  abbrev pub taken : Option (List Row) → Option T
  taken rows = option_and_then take (option_and_then (told_in form ids) rows)

  -- what is taken of these words, read from where the reading stands, if it goes on
  abbrev rest_of : List Text → Option Stand → Option T
  rest_of words next = taken (option_and_then (λ t. read_seen command rules t words) next)

  -- the value of one of the options or positionals begins with `-`
  abbrev spoilt : List Use → Bool
  spoilt uses = spoilt_at uses (option_names form ++ ids)

  -- if the reading goes on, some value of its uses begins with `-`
  abbrev Keeps : Option Stand → Type 0
  Keeps None = Unit {0}
  Keeps (Some s) = spoilt s.uses ≡ true

  -- a choice between two readings keeps such a value, where both do
  keeps_either : (b : Bool) (x y : Option Stand) → Keeps x → Keeps y → Keeps (if b then x else y)
  keeps_either true x y p q = p
  keeps_either false x y p q = q

  -- where some value begins with `-`, some value does after one more use of an argument
  keeps_use : (s : Stand) (a : Rule) (v : Text) → spoilt s.uses ≡ true
      → Keeps (with_use s a v)
  keeps_use s a v is = elim (cases_Bool (is_some (value_in a.id s.uses))) [
    | inl b ↦ rw b tt
    | inr b ↦ rw b (spoilt_kept (option_names form ++ ids) s.uses (use_of a v) is)
  ]

  -- and after a word as a positional
  keeps_positional : (s : Stand) (word : Text) (found : Option Rule) → spoilt s.uses ≡ true
      → Keeps (as_positional s word found)
  keeps_positional s word None is = tt
  keeps_positional s word (Some a) is =
      keeps_use (record s { place = min (s.place + 1) usize_max }) a word is

  -- and after an option, with the value of its own word or without
  keeps_option : (s : Stand) (a : Rule) (v : Option Text) → spoilt s.uses ≡ true
      → Keeps (as_option s a v)
  keeps_option s a (Some v) is = keeps_use s a v is
  keeps_option s a None is = is

  -- and after a flag
  keeps_flag : (s : Stand) (a : Rule) (v : Option Text) → spoilt s.uses ≡ true
      → Keeps (as_flag s a v)
  keeps_flag s a (Some v) is = tt
  keeps_flag s a None is = keeps_use s a (codes "true") is

  -- and after an option or a flag that was found by its name
  keeps_named : (s : Stand) (v : Option Text) (found : Option Rule) → spoilt s.uses ≡ true
      → Keeps (as_named s v found)
  keeps_named s v None is = tt
  keeps_named s v (Some a) is = elim (cases_Bool (takes_values a)) [
    | inl b ↦ rw b (keeps_option s a v is)
    | inr b ↦ rw b (keeps_flag s a v is)
  ]

  -- and after any word before the options end
  keeps_seen : (s : Stand) (word : Text) (seen : View word) → spoilt s.uses ≡ true
      → Keeps (as_seen rules s word seen)
  keeps_seen s word (ending e d) is = is
  keeps_seen s word (long n v e l d) is = keeps_named s v (arg_by_long rules n) is
  keeps_seen s word (short y ys c e l h i d) is = tt
  keeps_seen s word (torn y ys e l h i d) is =
      keeps_positional s word (arg_by_index rules s.place) is
  keeps_seen s word (dash e l h d) is = keeps_positional s word (arg_by_index rules s.place) is
  keeps_seen s word (clean e l h d) is = keeps_positional s word (arg_by_index rules s.place) is

  -- and after a word where an option waits for its value
  keeps_value : (s : Stand) (a : Rule) (word : Text) (seen : View word) → spoilt s.uses ≡ true
      → Keeps (as_value s a word seen)
  keeps_value s a word (ending e d) is = tt
  keeps_value s a word (long n v e l d) is = tt
  keeps_value s a word (short y ys c e l h i d) is = tt
  keeps_value s a word (torn y ys e l h i d) is = keeps_use s a word is
  keeps_value s a word (dash e l h d) is = keeps_use s a word is
  keeps_value s a word (clean e l h d) is = keeps_use s a word is

  -- and after any word, whether an option waits for it or the options have ended
  keeps_next : (s : Stand) (word : Text) (seen : View word) (waits : Option Rule)
      → spoilt s.uses ≡ true → Keeps (next_seen rules s word seen waits)
  keeps_next s word seen (Some a) is = keeps_value s a word seen is
  keeps_next s word seen None is =
      keeps_either s.ended (as_positional s word (arg_by_index rules s.place))
      (as_seen rules s word seen)
      (keeps_positional s word (arg_by_index rules s.place) is) (keeps_seen s word seen is)

  -- where a value begins with `-`, nothing is taken of what the values at the end tell
  spoilt_told : (uses : List Use) → spoilt uses ≡ true
      → option_and_then take (told_with command form ids simple
      (ended command form ids simple uses)) ≡ None
  spoilt_told uses is = go (all_of (map (ended command form ids simple uses) ids)) refl
    where
      parts : (spoilt_at uses (option_names form) || spoilt_at uses ids) ≡ true
      parts = sym (list_any-append (λ m. is_dashed (value_in m uses)) (option_names form) ids) ∙ is

      dashed_told : (texts : List Text)
          → all_of (map (ended command form ids simple uses) ids) ≡ Some texts
          → (list_any begins_dashed texts
          || list_any is_dashed (map (λ o. ended command form ids simple uses o.name)
          form.options)) ≡ true
      dashed_told texts all =
          let values = spoilt_values form.options uses (λ m. default_in m rules) in
          let positionals : spoilt_at uses ids ≡ true → list_any begins_dashed texts ≡ true =
          λ is. spoilt_texts ids uses (λ m. default_in m rules) texts is all in
          grind (arith, common_steps, parts, values, positionals)

      go : (found : Option (List Text))
          → all_of (map (ended command form ids simple uses) ids) ≡ found
          → option_and_then take (told_with command form ids simple
          (ended command form ids simple uses)) ≡ None
      go None all = rw all refl
      go (Some texts) all =
          let count = all_length (map (ended command form ids simple uses) ids) texts all in
          rw all (refuses _ (record {
            positionals =
                count ∙ length-map ids (ended command form ids simple uses) ∙ simple.count;
            values = length-map form.options (λ o. ended command form ids simple uses o.name);
          }) (dashed_told texts all))

  -- nor of what the rows at the end tell, with a fault or without
  spoilt_end : (uses : List Use) (kinds : Kinds) → spoilt uses ≡ true
      → taken (unless_fault kinds (rows_at uses)) ≡ None
  spoilt_end uses [] is =
      ap (option_and_then take) (told_at_end command form ids simple uses) ∙ spoilt_told uses is
  spoilt_end uses (k ∷ ks) is = refl

  -- no words tell anything after a value that begins with `-`
  pub spoilt_reads : (words : List Text) (s : Stand) → spoilt s.uses ≡ true
      → taken (read_seen command rules s words) ≡ None
  spoilt_reads [] s is = elim (cases_Bool (is_some s.waits)) [
    | inl b ↦ rw b refl
    | inr b ↦ rw b (spoilt_end s.uses _ is)
  ]
  spoilt_reads (word ∷ words) s is =
      go (next_seen rules s word (view word) s.waits)
      (keeps_next s word (view word) s.waits is) (λ t k. spoilt_reads words t k)
    where
      go : (next : Option Stand) → Keeps next
          → ((t : Stand) → spoilt t.uses ≡ true → taken (read_seen command rules t words) ≡ None)
          → rest_of words next ≡ None
      go None k ih = refl
      go (Some t) k ih = ih t k
