-- What words tell by the parser's rules of a form is what they tell by the form, where a text that
-- begins with `-` is refused.
use Rattle.std.proofs.Common.{◌≡◌, ◌∙◌, ◌+◌, arith, refl, sym, ap, ℕ, Bool, true, false, is_some, List, [], ◌∷◌, ◌++◌, map, length, slice_get, slice_set, Option, Some, None, option_and_then, codes}
use Rattle.std.specs.Prelude.{if◌then◌else◌}
use Rattle.command_line.proofs.Prelude.{bytes_eq, common_steps, or-true, list_any-append, slice_get_within, Row, Rule, Text, arg_by_index, arg_by_long, Form, IsSimple, Told, Valued, has_name, option_names, Given, as_word, begins_dashed, has_dashed, kind_of_word, names, next_where, read_from, told_by, value_or_wait, with_flag, with_option, with_option_value, with_positional, told_in, IsOf}
use Rattle.command_line.proofs.Names.{place_of, placed_has}
use Rattle.command_line.proofs.Uses.{Use, flag_filled, set_use, use_of, value_in}
use Rattle.command_line.proofs.UseLists.{seen}
use Rattle.command_line.proofs.FormRules.{Named, get_has, is_flag, is_none, is_option, named, positional_filled, rules_by, own_rule}
use Rattle.command_line.proofs.FormReading.{Fits, filled, filled_next, fits_flag, fits_text, fits_value, flag_text, given}
use Rattle.command_line.proofs.FormPlaces.{flag_place, given_at, has_none, has_room, no_text, option_place, past_end, set_at, used_text}
use Rattle.command_line.proofs.FormEnd.{end_agrees}
use Rattle.command_line.proofs.RuleReading.{Stand, as_flag, as_named, as_option, as_positional, as_seen, as_value, read_seen, stand}
use Rattle.command_line.proofs.WordViews.{View, view, ending, long, short, torn, dash, clean}
use Rattle.command_line.proofs.DashedValues.{spoilt_new, spoilt_reads}

module _ (command : Text) (form : Form) (ids : List Text) (simple : IsSimple form ids) (T : Type 0)
    (take : Told → Option T)
    (refuses : (told : Told) → IsOf form told → has_dashed told ≡ true → take told ≡ None) where
  -- the rules of the form
  abbrev rules : List Rule
  rules = rules_by form ids

  -- what is taken of what the matches tell, where there are matches
  abbrev pub taken : Option (List Row) → Option T
  taken rows = option_and_then take (option_and_then (told_in form ids) rows)

  -- what is taken of these words by the rules, read from where the reading stands, if it goes on
  abbrev rest_of : List Text → Option Stand → Option T
  rest_of words next = taken (option_and_then (λ t. read_seen command rules t words) next)

  -- what is taken of these words by the form, after what was given, if the form allowed it
  abbrev told_rest : List Text → Option Given → Option T
  told_rest words next = option_and_then take (option_and_then (λ g. read_from form g words) next)

  -- ---- what was given goes on alike

  -- these words, where no option waits
  abbrev pub Agree : List Text → Type 0
  Agree words = (uses : List Use) (texts : List Text) (values : List (Option Text))
      (flags : List Bool) (over : Bool) → Fits form ids uses texts values flags
      → taken (read_seen command rules (stand uses None (length texts + 1) over) words)
      ≡ option_and_then take (read_from form (given texts values flags None over) words)

  -- these words, where an option waits
  abbrev pub Ahead : List Text → Type 0
  Ahead words = (uses : List Use) (texts : List Text) (values : List (Option Text))
      (flags : List Bool) (name : Text) (d : Option Text) (i : ℕ)
      → Fits form ids uses texts values flags → place_of name (option_names form) ≡ Some i
      → taken (read_seen command rules
      (stand uses (Some (own_rule name d)) (length texts + 1) false) words)
      ≡ (if is_some (value_in name uses) then None else option_and_then take
      (read_from form (given texts values flags (Some i) false) words))

  module _ {uses : List Use} {texts : List Text} {values : List (Option Text)} {flags : List Bool}
      (f : Fits form ids uses texts values flags) (words : List Text) (ih : Agree words) where
    -- where the reading stands, if no option waits
    abbrev idle : Bool → Stand
    idle over = stand uses None (length texts + 1) over

    -- what was given, if no option waits
    abbrev so_far : Bool → Given
    so_far over = given texts values flags None over

    -- a word as the next positional, and what follows, tells the same by the rules and by the form
    takes_text : (over : Bool) (word : Text)
        → rest_of words (as_positional (idle over) word (arg_by_index rules (length texts + 1)))
        ≡ told_rest words (with_positional form (so_far over) word)
    takes_text over word = go (slice_get ids (length texts)) refl where
      go : (at : Option Text) → slice_get ids (length texts) ≡ at
          → rest_of words (as_positional (idle over) word (arg_by_index rules (length texts + 1)))
          ≡ told_rest words (with_positional form (so_far over) word)
      go None at = ap (rest_of words) (no_text form ids simple uses texts over word at)
          ∙ sym (rw (has_none form ids simple texts (past_end ids (length texts) at)) refl)
      go (Some id) at =
          ap (rest_of words) (used_text form ids simple f over word id at)
          ∙ ih _ _ _ _ over (fits_text form ids simple f id word at)
          ∙ sym (rw (has_room form ids simple texts (slice_get_within ids (length texts) id at))
          refl)

    -- a positional that begins with `-`
    spoils_text : (over : Bool) (word : Text) → begins_dashed word ≡ true
        → rest_of words (as_positional (idle over) word (arg_by_index rules (length texts + 1)))
        ≡ None
    spoils_text over word d = go (slice_get ids (length texts)) refl where
      go : (at : Option Text) → slice_get ids (length texts) ≡ at
          → rest_of words (as_positional (idle over) word (arg_by_index rules (length texts + 1)))
          ≡ None
      go None at = ap (rest_of words) (no_text form ids simple uses texts over word at)
      go (Some id) at =
          let none : is_some (value_in id uses) ≡ false =
          ap is_some (filled_next ids texts uses id f.texts_are at) in
          let is_one : has_name id (option_names form ++ ids) ≡ true =
          rw (
            list_any-append (λ m. bytes_eq m id) (option_names form) ids,
            get_has ids (length texts) id at,
          ) (or-true (has_name id (option_names form))) in
          ap (rest_of words) (used_text form ids simple f over word id at)
          ∙ spoilt_reads command form ids simple T take refuses words _
          (spoilt_new (option_names form ++ ids) uses
          (use_of (positional_filled (length texts + 1) id) word) is_one none d)

    -- ---- options and flags

    -- an option, and what follows, tells the same by both, with the value of its own word or without
    takes_option : (name : Text) (y : Option Text) (i : ℕ) (d : Option Text) → Ahead words
        → place_of name (option_names form) ≡ Some i
        → rest_of words (as_option (idle false) (own_rule name d) y)
        ≡ told_rest words (with_option (so_far false) y i)
    takes_option name y i d ahead at =
        go y ∙ sym (rw (given_at form uses values name i f.values_are at) refl)
      where
        used_or_not : (v : Text) (b : Bool) → is_some (value_in name uses) ≡ b
            → rest_of words (if b then None else Some
            (stand (set_use uses (own_rule name d) v) None (length texts + 1) false))
            ≡ told_rest words (if b then None else Some (with_option_value (so_far false) i v))
        used_or_not v true is = refl
        used_or_not v false is =
            ih _ _ _ _ false (fits_value form ids simple f name v d i at is)

        go : (y : Option Text) → rest_of words (as_option (idle false) (own_rule name d) y)
            ≡ told_rest words (if is_some (value_in name uses) then None else Some
            (value_or_wait (so_far false) i y))
        go (Some v) = used_or_not v (is_some (value_in name uses)) refl
        go None = ahead uses texts values flags name d i f at ∙ grind (arith, common_steps)

    -- so does a flag
    takes_flag : (name : Text) (y : Option Text) (j : ℕ) → place_of name (option_names form) ≡ None
        → place_of name form.flags ≡ Some j
        → rest_of words (as_flag (idle false) (flag_filled name) y)
        ≡ told_rest words (with_flag (so_far false) y j)
    takes_flag name (Some v) j none at = refl
    takes_flag name None j none at =
        go (is_some (value_in name uses)) refl
        ∙ sym (rw (set_at form uses flags name j f.flags_are at) refl)
      where
        go : (b : Bool) → is_some (value_in name uses) ≡ b
            → rest_of words (if b then None else Some
            (stand (set_use uses (flag_filled name) (codes "true")) None (length texts + 1) false))
            ≡ told_rest words (if b then None else Some
            (given texts values (slice_set flags j true) None false))
        go true is = refl
        go false is = ih _ _ _ _ false (fits_flag form ids simple f name j none at is)

    -- so does a word that names an option, a flag or neither
    takes_named : (word name : Text) (y : Option Text) → Ahead words → Named form ids simple name
        → rest_of words (as_named (idle false) y (arg_by_long rules name))
        ≡ told_rest words (as_word form (so_far false) word (names name y))
    takes_named word name y ahead (is_option i d at l k) =
        rw (l, option_place form name (Some i) at) (takes_option name y i d ahead at)
    takes_named word name y ahead (is_flag j none at l) =
        rw (l, option_place form name None none, flag_place form name (Some j) at)
        (takes_flag name y j none at)
    takes_named word name y ahead (is_none none no_flag l) =
        rw (l, option_place form name None none, flag_place form name None no_flag) refl

    -- ---- one word

    -- any word before the options end, and what follows, tells the same by the rules and the form
    takes_word : (word : Text) → Ahead words → (look : View word)
        → rest_of words (as_seen rules (idle false) word look)
        ≡ told_rest words (as_word form (so_far false) word (kind_of_word word))
    takes_word word ahead (ending e d) = rw e (ih uses texts values flags true f)
    takes_word word ahead (long n y e l d) =
        rw (e, l) (takes_named word n y ahead (named form ids simple n))
    takes_word word ahead (short y ys c e l h is d) = rw (e, l, d) refl
    takes_word word ahead (torn y ys e l h is d) = rw (e, l, d) (spoils_text false word d)
    takes_word word ahead (dash e l h d) = rw (e, l, d) (spoils_text false word d)
    takes_word word ahead (clean e l h d) = rw (e, l, d) (takes_text false word)

    -- a word where an option waits
    value_or_not : (word name : Text) (d : Option Text) (i : ℕ)
        → place_of name (option_names form) ≡ Some i
        → (b dashes : Bool) → is_some (value_in name uses) ≡ b → begins_dashed word ≡ dashes
        → rest_of words (if b then None else Some
        (stand (set_use uses (own_rule name d) word) None (length texts + 1) false))
        ≡ (if b then None else told_rest words (if dashes then None else Some
        (with_option_value (given texts values flags (Some i) false) i word)))
    value_or_not word name d i at true dashes used is = refl
    value_or_not word name d i at false false fresh is =
        ih _ _ _ _ false (fits_value form ids simple f name word d i at fresh)
    value_or_not word name d i at false true fresh is =
        let is_one : has_name name (option_names form ++ ids) ≡ true =
        rw (
          list_any-append (λ m. bytes_eq m name) (option_names form) ids,
          placed_has name (option_names form) i at,
        ) refl in
        spoilt_reads command form ids simple T take refuses words _
        (spoilt_new (option_names form ++ ids) uses (use_of (own_rule name d) word) is_one fresh is)

    -- any word where an option waits tells the same by both; nothing, where the option has a value
    waits_word : (word name : Text) (d : Option Text) (i : ℕ)
        → place_of name (option_names form) ≡ Some i → (look : View word)
        → rest_of words (as_value
        (stand uses (Some (own_rule name d)) (length texts + 1) false) (own_rule name d) word look)
        ≡ (if is_some (value_in name uses) then None else told_rest words
        (next_where form (given texts values flags (Some i) false) word (Some i)))
    waits_word word name d i at (ending e b) = grind (arith, common_steps)
    waits_word word name d i at (long n y e l b) = grind (arith, common_steps)
    waits_word word name d i at (short y ys c e l h is b) = grind (arith, common_steps)
    waits_word word name d i at (torn y ys e l h is b) = value_or_not word name d i at _ _ refl refl
    waits_word word name d i at (dash e l h b) = value_or_not word name d i at _ _ refl refl
    waits_word word name d i at (clean e l h b) = value_or_not word name d i at _ _ refl refl

  -- words tell the same by the rules and by the form, where an option waits and where none does
  agrees : (words : List Text) → Agree words × Ahead words
  agrees [] = (
    λ uses texts values flags over f. ap (option_and_then take)
        (end_agrees command form ids simple f over),
    λ uses texts values flags name d i f at. grind (arith, common_steps),
  )
  agrees (word ∷ words) = (agrees_idle (agrees words), agrees_ahead (agrees words).0)
    where
      agrees_idle : Agree words × Ahead words → Agree (word ∷ words)
      agrees_idle ih uses texts values flags true f = takes_text f words ih.0 true word
      agrees_idle ih uses texts values flags false f =
          takes_word f words ih.0 word ih.1 (view word)

      agrees_ahead : Agree words → Ahead (word ∷ words)
      agrees_ahead ih uses texts values flags name d i f at =
          waits_word f words ih word name d i at (view word)

  -- before any use, no option has a value
  nothing_seen : (options : List Valued)
      → seen [] (map (λ o. o.name) options) ≡ map (λ o. None) options
  nothing_seen [] = refl
  nothing_seen (o ∷ os) = ap (λ more. None ∷ more) (nothing_seen os)

  -- before any use, no flag stands
  no_flags : (flags : List Text) → seen [] flags ≡ map flag_text (map (λ flag. false) flags)
  no_flags [] = refl
  no_flags (g ∷ gs) = ap (λ more. None ∷ more) (no_flags gs)

  -- before any use, no positional has a text
  no_texts : (ids : List Text) → seen [] ids ≡ filled ids []
  no_texts [] = refl
  no_texts (id ∷ ids) = ap (λ more. None ∷ more) (no_texts ids)

  -- what the words tell by the parser's rules is what they tell by the form
  pub form_agrees : (words : List Text)
      → taken (read_seen command rules (stand [] None 1 false) words)
      ≡ option_and_then take (told_by form words)
  form_agrees words = (agrees words).0 [] [] (map (λ option. None) form.options)
      (map (λ flag. false) form.flags) false (record {
        values_are = nothing_seen form.options;
        flags_are = no_flags form.flags;
        texts_are = no_texts ids;
        room = omega arith;
        typed = refl;
      })
