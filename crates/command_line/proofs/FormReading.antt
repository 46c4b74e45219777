-- What words tell by the parser's rules of a form is what they tell by the form, where no value
-- begins with `-`.
use Rattle.std.proofs.Common.{◌≡◌, ◌∙◌, ◌+◌, ◌&&◌, ◌<◌, ◌≤◌, arith, refl, sym, ap, ℕ, zero, suc, Bool, true, false, is_some, List, [], ◌∷◌, ◌++◌, map, length, slice_get, slice_set, length-append, Option, Some, None, codes}
use Rattle.command_line.proofs.Prelude.{common_steps, list_all-append, map-set, slice_get_within, explicit_source, Rule, Text, Form, IsSimple, are_distinct, has_name, option_names, Given}
use Rattle.command_line.proofs.Names.{bytes_same, head_apart, same_text, place_of, placed_has}
use Rattle.command_line.proofs.Uses.{Use, flag_filled, set_use, use_of, value_in}
use Rattle.command_line.proofs.UseLists.{seen, seen_kept, seen_set}
use Rattle.command_line.proofs.Defaults.{are_typed}
use Rattle.command_line.proofs.FormRules.{flag_is_no_option, flags_parted, option_is_no_other, options_parted, positional_is_no_flag, positional_is_no_option, get_has, positional_filled, own_rule}

-- the text of a flag
abbrev pub flag_text : Bool → Option Text
flag_text true = Some (codes "true")
flag_text false = None

-- the positionals so far, and none for the names that are left
abbrev pub filled : List Text → List Text → List (Option Text)
filled [] texts = []
filled (id ∷ ids) [] = None ∷ filled ids []
filled (id ∷ ids) (text ∷ texts) = Some text ∷ filled ids texts

-- before the first positional, no id of a positional has a value
filled_none : (ids : List Text) (uses : List Use) (k : ℕ) (id : Text)
    → seen uses ids ≡ filled ids [] → slice_get ids k ≡ Some id → value_in id uses ≡ None
filled_none [] uses k id is at = cc
filled_none (x ∷ xs) uses zero id is at = cc
filled_none (x ∷ xs) uses (suc k) id is at = filled_none xs uses k id (cc) at

-- the next positional has no value yet
pub filled_next : (ids texts : List Text) (uses : List Use) (id : Text)
    → seen uses ids ≡ filled ids texts → slice_get ids (length texts) ≡ Some id
    → value_in id uses ≡ None
filled_next ids [] uses id is at = filled_none ids uses 0 id is at
filled_next [] (t ∷ ts) uses id is at = cc
filled_next (x ∷ xs) (t ∷ ts) uses id is at = filled_next xs ts uses id (cc) at

-- one more positional
pub filled_set : (ids texts : List Text) (word id : Text) → slice_get ids (length texts) ≡ Some id
    → slice_set (filled ids texts) (length texts) (Some word) ≡ filled ids (texts ++ word ∷ [])
filled_set [] texts word id at = cc
filled_set (x ∷ xs) [] word id at = refl
filled_set (x ∷ xs) (t ∷ ts) word id at = ap (λ rest. Some t ∷ rest) (filled_set xs ts word id at)

-- the place of a positional's name
pub place_at : (ids : List Text) (k : ℕ) (id : Text) → are_distinct ids ≡ true
    → slice_get ids k ≡ Some id → place_of id ids ≡ Some k
place_at [] k id one at = cc
place_at (x ∷ xs) zero id one at = grind (arith, common_steps, bytes_same id)
place_at (x ∷ xs) (suc k) id one at =
    let rest = place_at xs k id (head_apart x xs one).1 at in
    grind (arith, common_steps, rest, same_text x id, (head_apart x xs one).0, get_has xs k id at)

-- the uses are what was given
pub record Fits (form : Form) (ids : List Text) (uses : List Use) (texts : List Text)
    (values : List (Option Text)) (flags : List Bool) : Type 0 where
  pub values_are : seen uses (option_names form) ≡ values
  pub flags_are : seen uses form.flags ≡ map flag_text flags
  pub texts_are : seen uses ids ≡ filled ids texts
  pub room : length texts ≤ length ids
  pub typed : are_typed uses ≡ true

-- what was given, as a record of these parts
abbrev pub given : List Text → List (Option Text) → List Bool → Option ℕ → Bool → Given
given texts values flags waits ended =
    record { ended = ended; waits = waits; positionals = texts; values = values; flags = flags }

module _ (form : Form) (ids : List Text) (simple : IsSimple form ids) where
  -- after one more use by the words, each use is still one of the words
  typed_more : (uses : List Use) (a : Rule) (v : Text) → are_typed uses ≡ true
      → are_typed (set_use uses a v) ≡ true
  typed_more uses a v t = list_all-append (λ u. explicit_source (Some u.source)) uses
      (use_of a v ∷ []) ∙ ap (λ b. b && true) t

  module _ {uses : List Use} {texts : List Text} {values : List (Option Text)} {flags : List Bool}
      (f : Fits form ids uses texts values flags) where
    -- an option's value
    pub fits_value : (name v : Text) (d : Option Text) (i : ℕ)
        → place_of name (option_names form) ≡ Some i → is_some (value_in name uses) ≡ false
        → Fits form ids (set_use uses (own_rule name d) v) texts (slice_set values i (Some v)) flags
    fits_value name v d i at none =
        let own = own_rule name d in
        let other =
        option_is_no_other form ids simple name (placed_has name (option_names form) i at) in
        record {
          values_are = seen_set (option_names form) uses (use_of own v) i at
              (options_parted form ids simple).first none
              ∙ ap (λ vs. slice_set vs i (Some v)) f.values_are;
          flags_are = seen_kept form.flags uses (use_of own v) other.0 ∙ f.flags_are;
          texts_are = seen_kept ids uses (use_of own v) other.1 ∙ f.texts_are;
          room = f.room;
          typed = typed_more uses own v f.typed;
        }

    -- a flag
    pub fits_flag : (name : Text) (j : ℕ) → place_of name (option_names form) ≡ None
        → place_of name form.flags ≡ Some j → is_some (value_in name uses) ≡ false
        → Fits form ids (set_use uses (flag_filled name) (codes "true")) texts values
        (slice_set flags j true)
    fits_flag name j apart at none =
        let own = flag_filled name in
        let h : has_name name form.flags ≡ true = placed_has name form.flags j at in
        record {
          values_are = seen_kept (option_names form) uses (use_of own (codes "true"))
              (flag_is_no_option form ids simple name h) ∙ f.values_are;
          flags_are = seen_set form.flags uses (use_of own (codes "true")) j at
              (flags_parted form ids simple).first none
              ∙ ap (λ fs. slice_set fs j (Some (codes "true"))) f.flags_are
              ∙ sym (map-set flag_text flags j true);
          texts_are = seen_kept ids uses (use_of own (codes "true"))
              ((flags_parted form ids simple).apart name h) ∙ f.texts_are;
          room = f.room;
          typed = typed_more uses own (codes "true") f.typed;
        }

    -- one more positional
    pub fits_text : (id word : Text) → slice_get ids (length texts) ≡ Some id
        → Fits form ids (set_use uses (positional_filled (length texts + 1) id) word)
        (texts ++ word ∷ []) values flags
    fits_text id word at =
        let own = positional_filled (length texts + 1) id in
        let h : has_name id ids ≡ true = get_has ids (length texts) id at in
        let none : is_some (value_in id uses) ≡ false =
        ap is_some (filled_next ids texts uses id f.texts_are at) in
        let less : length texts < length ids = slice_get_within ids (length texts) id at in
        let one : are_distinct ids ≡ true = (flags_parted form ids simple).second in
        record {
          values_are = seen_kept (option_names form) uses (use_of own word)
              (positional_is_no_option form ids simple id h) ∙ f.values_are;
          flags_are = seen_kept form.flags uses (use_of own word)
              (positional_is_no_flag form ids simple id h) ∙ f.flags_are;
          texts_are = seen_set ids uses (use_of own word) (length texts)
              (place_at ids (length texts) id one at) one none
              ∙ ap (λ ts. slice_set ts (length texts) (Some word)) f.texts_are
              ∙ filled_set ids texts word id at;
          room = omega (arith, length-append texts (word ∷ []));
          typed = typed_more uses own word f.typed;
        }
