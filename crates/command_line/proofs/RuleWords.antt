-- What the parser makes of words is what they tell by its rules.
use Rattle.std.proofs.Common.{◌≡◌, ◌∙◌, refl, sym, inl, inr, ℕ, ◌+◌, Bool, true, false, is_some, List, [], ◌∷◌, Option, Some, None, codes, min}
use Rattle.std.specs.Prelude.{option_and_then, if◌then◌else◌}
use Rattle.command_line.proofs.Prelude.{bytes_eq, cases_Bool, or-false, long_of, usize_max, Row, Rule, Text, idle, walked, walk_from, nothing_held, value, word_met, has_row, bundle_met, arg_by_id, arg_by_long, arg_by_index, flags_fault, walk_fault, word_fault}
use Rattle.clap.specs.declared.error.kind.ErrorKind.TheVariants as kind
use Rattle.command_line.proofs.Uses.{Use, flag_filled, row_is, rows_by, set_use, used_flag, used_value, value_in, value_rule}
use Rattle.command_line.proofs.RuleLooks.{Known, Looks, OneValue, flag, no_flag, unknown, valued}
use Rattle.command_line.proofs.RuleReading.{Stand, as_named, as_positional, as_seen, read_seen, stand}
use Rattle.command_line.proofs.WordViews.{View, view, ending, long, short, torn, dash, clean}
use Rattle.command_line.proofs.WalkSteps.{Continues, idle_at, more, parsed_from, pending_at, stops, top, waiting_at}
use Rattle.command_line.proofs.ValueWords.{after_value, lost_end, waits_word}

module _ (command : Text) (rules : List Rule) (looks : Looks rules) where
  -- where the reading stands, if no option waits
  abbrev stand_at : List Use → ℕ → Bool → Stand
  stand_at uses place ended = stand uses None place ended

  -- the matches of these words, read from where the reading stands, if it goes on
  abbrev rest_of : List Text → Option Stand → Option (List Row)
  rest_of words s = option_and_then (λ t. read_seen command rules t words) s

  -- the walk over these words, where an option waits
  abbrev Ahead : List Text → Type 0
  Ahead words = (i : Text) (g : Option Text) (p : Option ℕ) (d : List Text) (r : Bool)
      (k : arg_by_id rules i ≡ Some (value_rule i g p d r))
      (uses : List Use) (place : ℕ)
      → parsed_from command rules (waiting_at i uses place false) words
      ≡ read_seen command rules (stand uses (Some (value_rule i g p d r)) place false) words

  -- the walk takes a word as the next positional where the reading does, and goes on alike
  takes_positional : (uses : List Use) (place : ℕ) (ended : Bool) (word : Text)
      (words : List Text) → Continues command rules words
      → word_met rules [] ended idle place word (idle_at uses place ended).held
      ≡ ((idle_at uses place ended).held, value)
      → word_fault (top command rules) [] ended idle word (idle_at uses place ended).held ≡ []
      → OneValue rules (arg_by_index rules place)
      → parsed_from command rules (idle_at uses place ended) (word ∷ words)
      ≡ rest_of words (as_positional (stand_at uses place ended) word
      (arg_by_index rules place))
  unfolding walked
  takes_positional uses place ended word words ih met passed (unknown n) =
      stops command rules _ _ _ kind.UnknownArgument [] (rw (passed, met, n) refl) ∙ sym (rw n refl)
  takes_positional uses place ended word words ih met passed (valued i l x d r p k) =
      more command rules _ (pending_at i uses word (min (place + 1) usize_max) ended) _ _
      (rw (passed, met, p) refl) (rw (met, p, or-false ended) refl)
      ∙ after_value command rules looks i l x d r k words uses word
      (min (place + 1) usize_max) ended
      (is_some (value_in i uses)) refl
      ∙ rw p (elim (cases_Bool (is_some (value_in i uses))) [
        | inl b ↦ rw b refl
        | inr b ↦ rw b (ih _ _ _)
      ])

  -- the walk takes an option with the value of its own word, and stops if it was used before
  takes_value : {n v i : Text} {g : Option Text} {p : Option ℕ} {d : List Text} {r : Bool}
      (uses : List Use) (place : ℕ) (word : Text) (words : List Text)
      → Continues command rules words
      → bytes_eq word (45 ∷ 45 ∷ []) ≡ false → long_of word ≡ Some (n, Some v)
      → arg_by_long rules n ≡ Some (value_rule i g p d r)
      → parsed_from command rules (idle_at uses place false) (word ∷ words)
      ≡ rest_of words (if is_some (value_in i uses) then None else Some
      (stand_at (set_use uses (value_rule i g p d r) v) place false))
  unfolding walked
  takes_value {v = v} {i = i} {g = g} {p = p} {d = d} {r = r} uses place word words ih e l u =
      elim (cases_Bool (is_some (value_in i uses))) [
        | inl b ↦ let row : has_row i (rows_by uses) ≡ true = row_is i uses ∙ b in
            rw b (stops command rules _ _ _ kind.ArgumentConflict [] (rw (e, l, u, row) refl))
        | inr b ↦ let row : has_row i (rows_by uses) ≡ false = row_is i uses ∙ b in
            rw b (more command rules _ (idle_at (set_use uses (value_rule i g p d r) v) place false) _ _
            (rw (e, l, u, row) refl) (rw (e, l, u, used_value i g p d r v uses b) refl)
            ∙ ih (set_use uses (value_rule i g p d r) v) place false)
      ]

  -- the walk takes a flag without a value, and stops if it was used before
  takes_flag : (uses : List Use) (place : ℕ) (word : Text) (words : List Text) (n : Text)
      → Continues command rules words
      → bytes_eq word (45 ∷ 45 ∷ []) ≡ false → long_of word ≡ Some (n, None)
      → (i : Text) → arg_by_long rules n ≡ Some (flag_filled i) → (b : Bool)
      → is_some (value_in i uses) ≡ b
      → parsed_from command rules (idle_at uses place false) (word ∷ words)
      ≡ rest_of words (if b then None else Some
      (stand_at (set_use uses (flag_filled i) (codes "true")) place false))
  unfolding walked
  takes_flag uses place word words n ih e l i u true used =
      let row : has_row i (rows_by uses) ≡ true = row_is i uses ∙ used in
      stops command rules _ _ _ kind.ArgumentConflict [] (rw (e, l, u, row) refl)
  takes_flag uses place word words n ih e l i u false fresh =
      let row : has_row i (rows_by uses) ≡ false = row_is i uses ∙ fresh in
      more command rules _ (idle_at (set_use uses (flag_filled i) (codes "true")) place false) _ _
      (rw (e, l, u, row) refl) (rw (e, l, u, used_flag i uses fresh) refl)
      ∙ ih (set_use uses (flag_filled i) (codes "true")) place false

  -- the walk takes a word that names an option, a flag or neither as the reading does
  takes_named : (uses : List Use) (place : ℕ) (word : Text) (words : List Text) (n : Text)
      (y : Option Text) → Continues command rules words
      → Ahead words
      → bytes_eq word (45 ∷ 45 ∷ []) ≡ false → long_of word ≡ Some (n, y)
      → Known rules (arg_by_long rules n)
      → parsed_from command rules (idle_at uses place false) (word ∷ words)
      ≡ rest_of words (as_named (stand_at uses place false) y
      (arg_by_long rules n))
  unfolding walked
  takes_named uses place word words n y ih ahead e l (no_flag (unknown u)) =
      stops command rules _ _ _ kind.UnknownArgument [] (rw (e, l, u) refl) ∙ sym (rw u refl)
  takes_named uses place word words n (Some v) ih ahead e l (no_flag (valued i g p d r u k)) =
      takes_value uses place word words ih e l u ∙ sym (rw u refl)
  takes_named uses place word words n None ih ahead e l (no_flag (valued i g p d r u k)) =
      more command rules _ (waiting_at i uses place false) _ _
      (rw (e, l, u) refl) (rw (e, l, u) refl) ∙ ahead i g p d r k uses place ∙ sym (rw u refl)
  takes_named uses place word words n (Some v) ih ahead e l (flag i u) =
      stops command rules _ _ _ kind.TooManyValues [] (rw (e, l, u) refl) ∙ sym (rw u refl)
  takes_named uses place word words n None ih ahead e l (flag i u) =
      takes_flag uses place word words n ih e l i u (is_some (value_in i uses)) refl
      ∙ sym (rw u refl)

  -- the walk takes any word before the options end as the reading does
  takes_word : (uses : List Use) (place : ℕ) (word : Text) (words : List Text)
      → Continues command rules words
      → Ahead words
      → (seen : View word)
      → parsed_from command rules (idle_at uses place false) (word ∷ words)
      ≡ rest_of words (as_seen rules (stand_at uses place false) word seen)
  unfolding walked flags_fault bundle_met
  takes_word uses place word words ih ahead (ending e d) =
      more command rules _ (idle_at uses place true) _ _ (rw e refl) (rw e refl)
      ∙ ih uses place true
  takes_word uses place word words ih ahead (long n y e l d) =
      takes_named uses place word words n y ih ahead e l (looks.by_long n)
  takes_word uses place word words ih ahead (short y ys c e l h is d) =
      stops command rules _ _ _ kind.UnknownArgument [] (rw (e, l, h, is, looks.by_short c) refl)
  takes_word uses place word words ih ahead (torn y ys e l h is d) =
      takes_positional uses place false word words ih (rw (e, l, h, is) refl)
      (rw (e, l, h, is) refl) (looks.by_index place)
  takes_word uses place word words ih ahead (dash e l h d) =
      takes_positional uses place false word words ih (rw (e, l, h) refl) (rw (e, l, h) refl)
      (looks.by_index place)
  takes_word uses place word words ih ahead (clean e l h d) =
      takes_positional uses place false word words ih (rw (e, l, h) refl) (rw (e, l, h) refl)
      (looks.by_index place)

  -- at the end of the words, where no option waits, walk and reading have the same matches
  ends : (uses : List Use) (place : ℕ) (ended : Bool)
      → parsed_from command rules (idle_at uses place ended) []
      ≡ read_seen command rules (stand_at uses place ended) []
  unfolding walk_fault
  ends uses place ended = refl

  -- over any words walk and reading have the same matches, whether or not an option waits
  walks : (words : List Text) → Continues command rules words × Ahead words
  walks [] =
      (ends, λ i g p d r k uses place. lost_end command rules looks i g p d r k uses place false)
  walks (word ∷ words) =
      (walks_idle word words (walks words), walks_waiting word words (walks words).0)
    where
      walks_idle : (word : Text) (words : List Text) → Continues command rules words × Ahead words
          → Continues command rules (word ∷ words)
      walks_idle word words ih uses place true =
          takes_positional uses place true word words ih.0 refl refl (looks.by_index place)
      walks_idle word words ih uses place false =
          takes_word uses place word words ih.0 ih.1 (view word)

      walks_waiting : (word : Text) (words : List Text) → Continues command rules words
          → Ahead (word ∷ words)
      walks_waiting word words ih i g p d r k uses place =
          waits_word command rules looks i g p d r k uses place word words ih (view word)

  -- what the parser makes of the words is what they tell by the rules
  pub told_by_rules : (words : List Text)
      → parsed_from command rules (walk_from nothing_held) words
      ≡ read_seen command rules (stand_at [] 1 false) words
  told_by_rules words = (walks words).0 [] 1 false
