-- Where a word stands in a form: the place of an option or a flag, and of the next positional.
use Rattle.std.proofs.Common.{◌≡◌, ◌∙◌, ◌+◌, ◌<◌, ◌≤◌, arith, refl, sym, ap, ℕ, zero, suc, min, Bool, true, false, is_some, List, [], ◌∷◌, ◌++◌, map, length, position, slice_get, length-append, nat_lt, Option, Some, None, option_map}
use Rattle.command_line.proofs.Prelude.{option_map_or, bytes_eq, common_steps, slice_get-map, slice_get_within, usize_max, Text, arg_by_index, Form, IsSimple, option_names, is_set}
use Rattle.command_line.specs.Words.{is_given}
use Rattle.command_line.proofs.Names.{place_by_map, place_of, position_is}
use Rattle.command_line.proofs.Uses.{Use, set_use, value_in}
use Rattle.command_line.proofs.UseLists.{seen, seen_at}
use Rattle.command_line.proofs.FormRules.{at_index, positional_filled, rules_by}
use Rattle.command_line.proofs.FormReading.{Fits, filled_next, flag_text}
use Rattle.command_line.proofs.RuleReading.{as_positional, stand}

-- a place at which a list has nothing is past its end
pub past_end : (ids : List Text) (k : ℕ) → slice_get ids k ≡ None → length ids ≤ k
past_end [] k is = omega arith
past_end (id ∷ ids) zero is = cc
past_end (id ∷ ids) (suc k) is = omega (arith, past_end ids k is)

module _ (form : Form) where
  -- the form finds an option where its name stands among the names of the options, or nowhere
  pub option_place : (name : Text) (found : Option ℕ) → place_of name (option_names form) ≡ found
      → position (λ o. bytes_eq o.name name) form.options ≡ found
  option_place name found is = position_is (λ o. bytes_eq o.name name) form.options
      ∙ place_by_map (λ o. o.name) name form.options ∙ is

  -- the form finds a flag where its name stands among the flags, or nowhere
  pub flag_place : (name : Text) (found : Option ℕ) → place_of name form.flags ≡ found
      → position (λ f. bytes_eq f name) form.flags ≡ found
  flag_place name found is = position_is (λ f. bytes_eq f name) form.flags ∙ is

  -- the option at the place of a name is given just where that name has a value
  pub given_at : (uses : List Use) (values : List (Option Text)) (name : Text) (i : ℕ)
      → seen uses (option_names form) ≡ values → place_of name (option_names form) ≡ Some i
      → is_given values i ≡ is_some (value_in name uses)
  given_at uses values name i same at =
      rw (← same, seen_at (option_names form) uses name i at) refl

  -- the flag at the place of a name is set just where that name has a value
  pub set_at : (uses : List Use) (flags : List Bool) (name : Text) (j : ℕ)
      → seen uses form.flags ≡ map flag_text flags → place_of name form.flags ≡ Some j
      → is_set flags j ≡ is_some (value_in name uses)
  set_at uses flags name j same at = go (slice_get flags j)
      (sym (slice_get-map flag_text flags j) ∙ ap (λ fs. slice_get fs j) (sym same)
      ∙ seen_at form.flags uses name j at)
    where
      go : (o : Option Bool) → option_map flag_text o ≡ Some (value_in name uses)
          → option_map_or (λ f. f) o false ≡ is_some (value_in name uses)
      go None is = cc
      go (Some true) is = grind (arith, common_steps)
      go (Some false) is = grind (arith, common_steps)

module _ (form : Form) (ids : List Text) (simple : IsSimple form ids) where
  -- the number of the positional after one more text isn't cut off at the greatest usize
  next_place : (texts : List Text) (word : Text) → length texts < length ids
      → min (length texts + 1 + 1) usize_max ≡ length (texts ++ word ∷ []) + 1
  next_place texts word less =
      let few = simple.few in omega (arith, length-append texts (word ∷ []))

  -- while there are fewer texts than positionals, the form has one more positional
  pub has_room : (texts : List Text) → length texts < length ids
      → nat_lt (length texts) form.positionals ≡ true
  has_room texts less = rw (← simple.count) (grind (arith, common_steps))

  -- once there is a text for each positional, it has no more
  pub has_none : (texts : List Text) → length ids ≤ length texts
      → nat_lt (length texts) form.positionals ≡ false
  has_none texts less = rw (← simple.count) (grind (arith, common_steps))

  -- a positional that was found
  pub used_text : {uses : List Use} {texts : List Text} {values : List (Option Text)}
      {flags : List Bool} → Fits form ids uses texts values flags → (over : Bool) (word id : Text)
      → slice_get ids (length texts) ≡ Some id
      → as_positional (stand uses None (length texts + 1) over) word
      (arg_by_index (rules_by form ids) (length texts + 1))
      ≡ Some (stand (set_use uses (positional_filled (length texts + 1) id) word) None
      (length (texts ++ word ∷ []) + 1) over)
  used_text {uses = uses} {texts = texts} f over word id at =
      let less : length texts < length ids = slice_get_within ids (length texts) id at in
      let there : arg_by_index (rules_by form ids) (length texts + 1)
      ≡ Some (positional_filled (length texts + 1) id) =
      at_index form ids (length texts)
      ∙ ap (λ o. option_map (λ m. positional_filled (length texts + 1) m) o) at in
      let none : is_some (value_in id uses) ≡ false =
      ap is_some (filled_next ids texts uses id f.texts_are at) in
      rw (there, none, next_place texts word less) refl

  -- where no positional is left, a word can't be one
  pub no_text : (uses : List Use) (texts : List Text) (over : Bool) (word : Text)
      → slice_get ids (length texts) ≡ None
      → as_positional (stand uses None (length texts + 1) over) word
      (arg_by_index (rules_by form ids) (length texts + 1)) ≡ None
  no_text uses texts over word at =
      rw (at_index form ids (length texts), at) refl
