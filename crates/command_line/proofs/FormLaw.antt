-- What the parser makes of words is what they tell, for every form.
use Rattle.std.proofs.Common.{◌≡◌, drop, ◌∙◌, ◌<◌, arith, refl, sym, ap, true, List, [], ◌∷◌, length, Option, None, option_and_then}
use Rattle.command_line.proofs.Prelude.{Row, Text, nothing_held, rows_after, Kinds, ErrorKind, App, built, matches_of, names_of, built_fault, fault_of, Form, IsSimple, Told, has_dashed, told_by, undashed, IsOf}
use Rattle.clap.proofs.FaultLemmas.{leaf_fault}
use Rattle.command_line.specs.Parsers.{app_by, parsed_by, told_in, unless_fault as told_unless_fault}
use Rattle.command_line.proofs.FormRules.{looks, rules_by}
use Rattle.command_line.proofs.RuleReading.{shape_by, unless_fault}
use Rattle.command_line.proofs.RuleWords.{told_by_rules}
use Rattle.command_line.proofs.BuiltForms.{built_is}
use Rattle.command_line.proofs.FormWords.{form_agrees}

-- the matches of a built command on these words, where there is no fault
abbrev parsed_of : App → List Text → Option (List Row)
parsed_of b words =
    unless_fault (built_fault b nothing_held words) (rows_after b.top.rules (names_of b) words)

module _ (command : Text) (form : Form) (ids : List Text) (simple : IsSimple form ids) (T : Type 0)
    (take : Told → Option T)
    (refuses : (told : Told) → IsOf form told → has_dashed told ≡ true → take told ≡ None) where
  -- what is taken of what the matches tell, where there are matches
  abbrev taken : Option (List Row) → Option T
  taken rows = option_and_then take (option_and_then (told_in form ids) rows)

  -- the command of the form
  abbrev app : App
  app = app_by command form ids

  -- of the matches, where there is no fault, the same is taken as of the words after the first one
  parsed : (first : Text) (words : List Text)
      → taken (unless_fault (fault_of app (first ∷ words)) (matches_of app (first ∷ words)))
      ≡ option_and_then take (told_by form words)
  parsed first words =
      let here : unless_fault (fault_of app (first ∷ words)) (matches_of app (first ∷ words))
      ≡ parsed_of (built app) words = refl in
      let bare : App = record { top = shape_by command (rules_by form ids); subs = [] } in
      ap taken (here ∙ ap (λ b. parsed_of b words) (built_is command form ids simple)
      ∙ ap (λ kinds. unless_fault kinds (rows_after (rules_by form ids) [] words))
      (leaf_fault bare nothing_held words refl)
      ∙ told_by_rules command (rules_by form ids) (looks form ids simple) words)
      ∙ form_agrees command form ids simple T take refuses words

  -- without a fault the matches tell what the words tell
  pub form_fits : (words : List Text) → 0 < length words → fault_of app words ≡ []
      → option_and_then take (told_in form ids (matches_of app words))
      ≡ option_and_then take (told_by form (drop 1 words))
  form_fits [] some none = absurd (omega arith)
  form_fits (first ∷ words) some none =
      sym (ap (λ kinds. taken (unless_fault kinds (matches_of app (first ∷ words)))) none)
      ∙ parsed first words

  -- words with a fault tell nothing
  pub form_stops : (words : List Text) → 0 < length words → (k : ErrorKind) (ks : Kinds)
      → fault_of app words ≡ k ∷ ks
      → option_and_then take (told_by form (drop 1 words)) ≡ None
  form_stops [] some k ks fails = absurd (omega arith)
  form_stops (first ∷ words) some k ks fails =
      sym (parsed first words)
      ∙ ap (λ kinds. taken (unless_fault kinds (matches_of app (first ∷ words)))) fails

  -- a fault leaves nothing to take, whether it comes before or after what the rows tell
  told_unless : (kinds : Kinds) (rows : List Row)
      → option_and_then take (told_unless_fault kinds (told_in form ids rows))
      ≡ taken (unless_fault kinds rows)
  told_unless [] rows = refl
  told_unless (k ∷ ks) rows = refl

  -- what is taken of what the parser makes of words
  pub form_law : (words : List Text) → 0 < length words
      → option_and_then take (parsed_by command form ids words)
      ≡ option_and_then take (told_by form (drop 1 words))
  form_law [] some = absurd (omega arith)
  form_law (first ∷ words) some =
      told_unless (fault_of app (first ∷ words)) (matches_of app (first ∷ words))
      ∙ parsed first words

-- of texts with one that begins with `-`, `undashed` takes nothing
undashed_refuses : (form : Form) (told : Told) → IsOf form told → has_dashed told ≡ true
    → undashed told ≡ None
undashed_refuses form told is dashes = rw dashes refl

-- the law, for what refuses no more than a text that begins with `-`
pub undashed_law : (command : Text) (form : Form) (ids words : List Text) → IsSimple form ids
    → 0 < length words
    → option_and_then undashed (parsed_by command form ids words)
    ≡ option_and_then undashed (told_by form (drop 1 words))
undashed_law command form ids words simple some =
    form_law command form ids simple Told undashed (undashed_refuses form) words some
