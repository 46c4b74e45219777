-- The parser's walk over words, a word at a time.
use Rattle.std.proofs.Common.{◌≡◌, ◌∙◌, refl, sym, ap, ℕ, Bool, false, List, [], ◌∷◌, Option, Some, None}
use Rattle.std.specs.Prelude.{fold}
use Rattle.command_line.proofs.Prelude.{Row, Rule, Text, Waiting, Walk, idle, option, walked, finished, settled, Shape, ErrorKind, Kinds, or_else, check_fault, defaults_fault, settle_fault, turn_fault, walk_fault}
use Rattle.command_line.proofs.Uses.{Use, rows_by}
use Rattle.command_line.proofs.RuleReading.{stand, read_seen, shape_by, unless_fault}

-- where the walk stands, with these uses, this value that isn't used yet, and what waits
abbrev pub walk_at : List Use → Option (Text × List Text) → Waiting → ℕ → Bool → Walk
walk_at uses pending waiting place ended = record {
  held = record { rows = rows_by uses; pending = pending; skip = 0 };
  waiting = waiting;
  position = place;
  is_trailing = ended;
  stopped = None;
}

-- no option waits
abbrev pub idle_at : List Use → ℕ → Bool → Walk
idle_at uses place ended = walk_at uses None idle place ended

-- this value of the argument of this id isn't used yet
abbrev pub pending_at : Text → List Use → Text → ℕ → Bool → Walk
pending_at id uses v place ended = walk_at uses (Some (id, v ∷ [])) idle place ended

-- the option of this id waits for its value
abbrev pub waiting_at : Text → List Use → ℕ → Bool → Walk
waiting_at id uses place ended = walk_at uses (Some (id, [])) (option id) place ended

module _ (command : Text) (rules : List Rule) where
  -- the built command of this name with these rules
  abbrev pub top : Shape
  top = shape_by command rules

  -- the faults of the walk over these words from here, or else of what it leaves at the end
  abbrev pub fault_from : Walk → List Text → Kinds
  fault_from w words =
      let end = (fold (walked rules []) w words).held in
      or_else (walk_fault top [] w words) (or_else [] (or_else (settle_fault rules false end)
      (or_else (defaults_fault (settled rules end).rows rules)
      (check_fault top (finished rules end) false))))

  -- the rows at the end of the walk over these words from here, with the defaults
  abbrev pub rows_from : Walk → List Text → List Row
  rows_from w words = finished rules (fold (walked rules []) w words).held

  -- the matches of the walk over these words from here, where no fault comes
  abbrev pub parsed_from : Walk → List Text → Option (List Row)
  parsed_from w words = unless_fault (fault_from w words) (rows_from w words)

  -- a word without a fault leaves the matches to the walk after it
  pub more : (w v : Walk) (word : Text) (words : List Text) → turn_fault top [] w word ≡ []
      → walked rules [] w word ≡ v → parsed_from w (word ∷ words) ≡ parsed_from v words
  unfolding walk_fault
  more w v word words fits goes = here ∙ ap (λ u. parsed_from u words) goes
    where
      here : parsed_from w (word ∷ words) ≡ parsed_from (walked rules [] w word) words
      here = rw fits refl

  -- a word with a fault leaves no matches
  pub stops : (w : Walk) (word : Text) (words : List Text) (k : ErrorKind) (ks : Kinds)
      → turn_fault top [] w word ≡ k ∷ ks → parsed_from w (word ∷ words) ≡ None
  unfolding walk_fault
  stops w word words k ks fails = rw fails refl

  -- the matches of the walk over these words from here, where these faults came before
  abbrev pub parsed_after : Kinds → Walk → List Text → Option (List Row)
  parsed_after kinds w words =
      let end = (fold (walked rules []) w words).held in
      unless_fault (or_else (or_else kinds (walk_fault top [] w words))
      (or_else [] (or_else (settle_fault rules false end)
      (or_else (defaults_fault (settled rules end).rows rules)
      (check_fault top (finished rules end) false))))) (rows_from w words)

  -- the matches from a word on are those after it, where the faults of the word came before
  after_word : (w : Walk) (word : Text) (words : List Text)
      → parsed_from w (word ∷ words) ≡ parsed_after (turn_fault top [] w word)
      (walked rules [] w word) words
  unfolding walk_fault
  after_word w word words = refl

  -- two walks that a word takes to one
  pub meets : (w v : Walk) (word : Text) (words : List Text)
      → turn_fault top [] w word ≡ turn_fault top [] v word
      → walked rules [] w word ≡ walked rules [] v word
      → parsed_from w (word ∷ words) ≡ parsed_from v (word ∷ words)
  meets w v word words fails goes =
      after_word w word words ∙ ap (λ k. parsed_after k (walked rules [] w word) words) fails
      ∙ ap (λ u. parsed_after (turn_fault top [] v word) u words) goes
      ∙ sym (after_word v word words)

  -- the walk over these words, where no option waits
  abbrev pub Continues : List Text → Type 0
  Continues words = (uses : List Use) (place : ℕ) (ended : Bool)
      → parsed_from (idle_at uses place ended) words
      ≡ read_seen command rules (stand uses None place ended) words
