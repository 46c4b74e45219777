-- Each command reads what its form says: its names are distinct, and a text that begins with `-` is
-- none of its numbers.
use Rattle.std.proofs.Common.{◌≡◌, ◌<◌, ◌+◌, ◌||◌, ◌++◌, arith, refl, ap, inl, inr, Bool, true, ℕ, suc, take, List, [], ◌∷◌, length, Option, Some, None, codes, option_map, option_and_then}
use Rattle.command_line.proofs.Prelude.{before_first, list_any, position_or_len, cases_Bool, eqb-true, common_steps, usize_max, Text, Told, are_distinct, option_names, is_comma, three_numbers_of, begins_dashed, has_dashed, is_dashed, app_by, IsOf, IsReadableRow, NoMinus, CommandRow, assay_row, landscape_row, nothing_row, positional_row, run_row, save_row, trace_row}
use Rattle.numerals.specs.Numeral.{number_of}
use Rattle.clap.specs.Simple.{is_simple}
use Rattle.clap.specs.Faults.{is_simple_and_free}
use Rattle.command_line.specs.Commands.{assay_of, assay_with, positional_form, positional_number_at, positional_of, run_of, run_with, trace_of, workers_at, workers_form}
use Rattle.command_line.specs.declared.trace.Trace.{Trace}

-- a command that takes no words has no text that could begin with `-`
nothing_refuses : NoMinus → (told : Told) → IsOf nothing_row.form told → has_dashed told ≡ true
    → nothing_row.take told ≡ None
nothing_refuses no_minus told is d = go told.positionals told.values is.positionals is.values d
  where
    go : (ps : List Text) (vs : List (Option Text)) → length ps ≡ 0 → length vs ≡ 0
        → (list_any begins_dashed ps || list_any is_dashed vs) ≡ true → nothing_row.take told ≡ None
    go [] [] n m d = cc
    go _ _ n m d = absurd (omega arith)

-- what gives nothing for each value gives nothing for a value that may be missing
none_after : {X Y : Type 0} (f : X → Option Y) (o : Option X) → ((x : X) → f x ≡ None)
    → option_and_then f o ≡ None
none_after f None none = refl
none_after f (Some x) none = none x

-- what stands before the first comma begins with `-` where the text does
begins_so : (byte : ℕ) (bytes : Text) → begins_dashed (byte ∷ bytes) ≡ true
    → begins_dashed (before_first is_comma (byte ∷ bytes)) ≡ true
begins_so byte bytes d =
    let one : 1 + position_or_len is_comma bytes ≡ suc (position_or_len is_comma bytes) =
    omega arith in
    rw (eqb-true byte 45 d) (ap (λ n. begins_dashed (take n (45 ∷ bytes))) one)

module _ (no_minus : NoMinus) where
  -- a text that begins with `-` spells no number
  dashed_number : (least greatest : ℕ) (text : Text) → begins_dashed text ≡ true
      → number_of least greatest text ≡ None
  dashed_number least greatest [] d = cc
  dashed_number least greatest (byte ∷ bytes) d =
      rw (eqb-true byte 45 d) (no_minus least greatest bytes)

  -- nor does a value that may be missing, where it begins with `-`
  dashed_text : (least greatest : ℕ) (text : Option Text) → is_dashed text ≡ true
      → option_and_then (number_of least greatest) text ≡ None
  dashed_text least greatest None d = cc
  dashed_text least greatest (Some text) d = dashed_number least greatest text d

  -- one positional alone
  text_refuses : {T : Type 0} (take : Told → Option T) (told : Told)
      → ((p : Text) → begins_dashed p ≡ true
      → take (record { positionals = p ∷ []; values = []; flags = told.flags }) ≡ None)
      → length told.positionals ≡ 1 → length told.values ≡ 0 → has_dashed told ≡ true
      → take told ≡ None
  text_refuses take told none n m d = go told.positionals told.values n m d
    where
      go : (ps : List Text) (vs : List (Option Text)) → length ps ≡ 1 → length vs ≡ 0
          → (list_any begins_dashed ps || list_any is_dashed vs) ≡ true
          → take (record { positionals = ps; values = vs; flags = told.flags }) ≡ None
      go (p ∷ []) [] n m d = none p (grind (arith, common_steps))
      go _ _ n m d = absurd (omega arith)

  -- nor are there three numbers in a text that begins with `-`
  dashed_numbers : (greatest : ℕ) (text : Text) → begins_dashed text ≡ true
      → three_numbers_of greatest text ≡ None
  dashed_numbers greatest [] d = cc
  dashed_numbers greatest (byte ∷ bytes) d =
      rw (dashed_number 0 greatest (before_first is_comma (byte ∷ bytes)) (begins_so byte bytes d))
      refl

  -- one positional, and one value
  pair_refuses : {T : Type 0} (take : Told → Option T) (told : Told)
      → ((p : Text) (v : Option Text) → begins_dashed p ≡ true
      → take (record { positionals = p ∷ []; values = v ∷ []; flags = told.flags }) ≡ None)
      → ((p : Text) (v : Option Text) → is_dashed v ≡ true
      → take (record { positionals = p ∷ []; values = v ∷ []; flags = told.flags }) ≡ None)
      → length told.positionals ≡ 1 → length told.values ≡ 1 → has_dashed told ≡ true
      → take told ≡ None
  pair_refuses take told no_text no_value n m d = go told.positionals told.values n m d
    where
      go : (ps : List Text) (vs : List (Option Text)) → length ps ≡ 1 → length vs ≡ 1
          → (list_any begins_dashed ps || list_any is_dashed vs) ≡ true
          → take (record { positionals = ps; values = vs; flags = told.flags }) ≡ None
      go (p ∷ []) (v ∷ []) n m d = elim (cases_Bool (begins_dashed p)) [
        | inl a ↦ no_text p v a
        | inr a ↦ no_value p v (grind (arith, common_steps))
      ]
      go _ _ n m d = absurd (omega arith)

  -- `trace` refuses steps or inputs that begin with `-`
  trace_refuses : (told : Told) → IsOf trace_row.form told → has_dashed told ≡ true
      → trace_of told ≡ None
  trace_refuses told is d =
      pair_refuses trace_of told (λ p v a. rw (dashed_number 0 1000000 p a) refl)
      (λ p v b. none_after _ (number_of 0 1000000 p) (λ steps. no_inputs _ v b))
      is.positionals is.values d
    where
      no_inputs : (f : List ℕ → Trace) (value : Option Text) → is_dashed value ≡ true
          → option_map f (option_and_then (three_numbers_of 16777215) value) ≡ None
      no_inputs f None d = cc
      no_inputs f (Some text) d = rw (dashed_numbers 16777215 text d) refl

  -- `landscape` refuses steps that begin with `-`
  landscape_refuses : (told : Told) → IsOf landscape_row.form told → has_dashed told ≡ true
      → positional_number_at 1 100000 0 told ≡ None
  landscape_refuses told is d =
      text_refuses (positional_number_at 1 100000 0) told (dashed_number 1 100000) is.positionals
      is.values d

  -- the workers alone
  save_refuses : (told : Told) → IsOf workers_form told → has_dashed told ≡ true
      → workers_at 0 told ≡ None
  save_refuses told is d = go told.positionals told.values is.positionals is.values d
    where
      go : (ps : List Text) (vs : List (Option Text)) → length ps ≡ 0 → length vs ≡ 1
          → (list_any begins_dashed ps || list_any is_dashed vs) ≡ true
          → workers_at 0 (record { positionals = ps; values = vs; flags = told.flags }) ≡ None
      go [] (w ∷ []) n m d = dashed_text 1 64 w (grind (arith, common_steps))
      go _ _ n m d = absurd (omega arith)

  -- the workers and the looks
  run_refuses : (told : Told) → IsOf run_row.form told → has_dashed told ≡ true → run_of told ≡ None
  run_refuses told is d =
      go told.positionals told.values told.flags is.positionals is.values d
    where
      no_looks : (watch : Option Text) (workers : ℕ) → is_dashed watch ≡ true
          → run_with watch workers ≡ None
      no_looks None workers d = cc
      no_looks (Some text) workers d = rw (dashed_number 0 1000000 text d) refl

      go : (ps : List Text) (vs : List (Option Text)) (fs : List Bool) → length ps ≡ 0
          → length vs ≡ 2 → (list_any begins_dashed ps || list_any is_dashed vs) ≡ true
          → run_of (record { positionals = ps; values = vs; flags = fs }) ≡ None
      go [] (w ∷ t ∷ []) fs n m d = elim (cases_Bool (is_dashed w)) [
        | inl a ↦ ap (option_and_then (run_with t)) (dashed_text 1 64 w a)
        | inr a ↦ none_after (run_with t) (option_and_then (number_of 1 64) w)
            (λ workers. no_looks t workers (grind (arith, common_steps)))
      ]
      go _ _ fs n m d = absurd (omega arith)

  -- one number, and the workers
  positional_refuses : (greatest : ℕ) (told : Told) → IsOf positional_form told
      → has_dashed told ≡ true → positional_of greatest told ≡ None
  positional_refuses greatest told is d =
      pair_refuses (positional_of greatest) told (λ p v a. rw (dashed_number 0 greatest p a) refl)
      (λ p v b. none_after _ (number_of 0 greatest p)
      (λ number. ap (option_map _) (dashed_text 1 64 v b)))
      is.positionals is.values d

  -- `assay` refuses a count, a first seed or workers that begin with `-`
  assay_refuses : (told : Told) → IsOf assay_row.form told → has_dashed told ≡ true
      → assay_of told ≡ None
  assay_refuses told is d =
      go told.positionals told.values told.flags is.positionals is.values d
    where
      go : (ps : List Text) (vs : List (Option Text)) (fs : List Bool) → length ps ≡ 2
          → length vs ≡ 1 → (list_any begins_dashed ps || list_any is_dashed vs) ≡ true
          → assay_of (record { positionals = ps; values = vs; flags = fs }) ≡ None
      go (p ∷ q ∷ []) (w ∷ []) fs n m d = elim (cases_Bool (begins_dashed p)) [
        | inl a ↦ rw (dashed_number 1 64 p a) refl
        | inr a ↦ elim (cases_Bool (begins_dashed q)) [
          | inl b ↦ none_after (λ count.
              option_and_then (λ first. assay_with count first (option_and_then (number_of 1 64) w))
              (number_of 0 9223372036854775744 q))
              (number_of 1 64 p) (λ count. rw (dashed_number 0 9223372036854775744 q b) refl)
          | inr b ↦
              let none = dashed_text 1 64 w (grind (arith, common_steps)) in
              none_after (λ count.
              option_and_then (λ first. assay_with count first (option_and_then (number_of 1 64) w))
              (number_of 0 9223372036854775744 q)) (number_of 1 64 p) (λ count.
              none_after (λ first. assay_with count first (option_and_then (number_of 1 64) w))
              (number_of 0 9223372036854775744 q) (λ first. ap (assay_with count first) none))
        ]
      ]
      go _ _ fs n m d = absurd (omega arith)

-- ---- the commands

-- what a row needs to be readable, with the facts of its simple form one by one
reads_by : {T : Type 0} {row : CommandRow T}
    → are_distinct (option_names row.form ++ (row.form.flags ++ row.texts)) ≡ true
    → length row.texts ≡ row.form.positionals → length row.texts < usize_max
    → is_simple (app_by row.name row.form row.texts) ≡ true
    → is_simple_and_free (app_by row.name row.form row.texts) ≡ true
    → (NoMinus → (told : Told) → IsOf row.form told → has_dashed told ≡ true
    → row.take told ≡ None) → IsReadableRow row
reads_by distinct count few simple free refuses = record {
  distinct = record { names = distinct; count = count; few = few };
  simple = simple;
  free = free;
  refuses = refuses;
}

-- the parser knows a command that takes no words, so no text can begin with `-`
pub nothing_reads : IsReadableRow nothing_row
nothing_reads = reads_by refl refl (omega arith) refl refl nothing_refuses

-- the parser knows `trace`, which refuses steps or inputs that begin with `-`
pub trace_reads : IsReadableRow trace_row
trace_reads = reads_by refl refl (omega arith) refl refl trace_refuses

-- the parser knows `landscape`, which refuses steps that begin with `-`
pub landscape_reads : IsReadableRow landscape_row
landscape_reads = reads_by refl refl (omega arith) refl refl landscape_refuses

-- the parser knows `save`, which refuses workers that begin with `-`
pub save_reads : IsReadableRow save_row
save_reads = reads_by refl refl (omega arith) refl refl save_refuses

-- the parser knows `run`, which refuses workers or looks that begin with `-`
pub run_reads : IsReadableRow run_row
run_reads = reads_by refl refl (omega arith) refl refl run_refuses

-- the parser knows `lineage`, which refuses a cell or workers that begin with `-`
pub lineage_reads : IsReadableRow (positional_row (codes "lineage") (codes "cell") 65535)
lineage_reads = reads_by refl refl (omega arith) refl refl (λ no_minus.
    positional_refuses no_minus 65535)

-- the parser knows `bench`, which refuses a seed or workers that begin with `-`
pub bench_reads : IsReadableRow (positional_row (codes "bench") (codes "seed") 9223372036854775807)
bench_reads = reads_by refl refl (omega arith) refl refl (λ no_minus.
    positional_refuses no_minus 9223372036854775807)

-- the parser knows `resume` and `advance`, which refuse updates or workers that begin with `-`
pub further_reads : IsReadableRow (positional_row (codes "resume") (codes "more") 1000000)
further_reads = reads_by refl refl (omega arith) refl refl (λ no_minus.
    positional_refuses no_minus 1000000)

-- the parser knows `assay`, which refuses a count, a first seed or workers that begin with `-`
pub assay_reads : IsReadableRow assay_row
assay_reads = reads_by refl refl (omega arith) refl refl assay_refuses
