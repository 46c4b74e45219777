-- A run that is saved and resumed goes on.
use Rattle.std.proofs.Common.{◌≡◌, ◌≤◌, ◌+◌, refl, ◌++◌, ℕ, List, false, Result, Ok, Err, length, arith}
use Rattle.std.specs.Prelude.{nat_lt}
use Rattle.avida_program.proofs.Prelude.{common_steps, continued_text, saved_of, SavedState, state_of, update_of, ConfigValues, head_text, log_text, updates_text, Refusal, Saved, refused_as, unless_too_long, with_more, resume_input_of, saved_input_of, CanResume, ResumesExactly, save_text}
use Rattle.std.proofs.lemmas.Bool.Decides.{nat_tests}

-- a test that fails
not_below : (least n : ℕ) → n ≤ least → nat_lt least n ≡ false
not_below least n within = grind arith

-- a saved world that is not too long and not too late is read
pub read_again : (more : ℕ) (bytes : List ℕ) (state : SavedState) → saved_of bytes ≡ Ok state
    → length bytes ≤ 536870912 → state.head.update + more ≤ 1000000
    → resume_input_of more bytes ≡ Ok state
read_again more bytes state again short early =
    rw (again, not_below 536870912 (length bytes) short, not_below 1000000 _ early) refl

-- bytes of a saved world that are not too many, and not too late for so many more updates
pub record IsReadAs (bytes : List ℕ) (state : SavedState) (more : ℕ) : Type 0 where
  pub is : saved_of bytes ≡ Ok state
  pub short : length bytes ≤ 536870912
  pub early : state.head.update + more ≤ 1000000

-- what was read is of bytes that are not too many
short_enough : {A : Type 0} (limit : ℕ) (bytes : List ℕ) (read : Result A Refusal) (input : A)
    → unless_too_long limit bytes read ≡ Ok input → (length bytes ≤ limit) × (read ≡ Ok input)
short_enough limit bytes read input is =
    (grind (arith, common_steps, nat_tests), grind (arith, common_steps, nat_tests))

-- what was read is no refusal, and not too late for so many more updates
early_enough : (more : ℕ) (read : Result SavedState Refusal) (state : SavedState)
    → with_more more read ≡ Ok state
    → (read ≡ Ok state) × (state.head.update + more ≤ 1000000)
early_enough more (Err why) state is = absurd cc
early_enough more (Ok there) state is =
    (grind (arith, common_steps, nat_tests), grind (arith, common_steps, nat_tests))

-- what was read is no refusal
accepted : {A E : Type 0} (reason : E → Refusal) (read : Result A E) (input : A)
    → refused_as reason read ≡ Ok input → read ≡ Ok input
accepted reason (Ok other) input is = cc
accepted reason (Err why) input is = absurd cc

-- what `resume` and `advance` read
pub read_as : (more : ℕ) (bytes : List ℕ) (state : SavedState)
    → resume_input_of more bytes ≡ Ok state → IsReadAs bytes state more
read_as more bytes state reads =
    let early = early_enough more (saved_input_of bytes) state reads in
    let short =
    short_enough 536870912 bytes (refused_as Saved (saved_of bytes)) state early.0 in
    record { is = accepted Saved _ state short.1; short = short.0; early = early.1 }

-- `resume` and `advance` read what `save` wrote
pub reads_again : (config : ConfigValues) (more : ℕ) → CanResume config more
    → saved_of (save_text config) ≡ Ok (state_of config)
    → resume_input_of more (save_text config) ≡ Ok (state_of config)
unfolding state_of
reads_again config more can again =
    read_again more (save_text config) (state_of config) again can.short
    (omega (arith, update_of config config.updates, can.updates))

-- a run that is saved and resumed goes on
pub run_goes_on : (config : ConfigValues) (more : ℕ) → CanResume config more
    → saved_of (save_text config) ≡ Ok (state_of config)
    → (head_text config ++ updates_text config config.updates)
    ++ continued_text (state_of config) more ≡ log_text config (config.updates + more)
    → ResumesExactly config more
unfolding log_text
run_goes_on config more can again goes = record {
  log = head_text config ++ updates_text config config.updates;
  is_log = refl;
  state = state_of config;
  reads = reads_again config more can again;
  goes_on = goes;
}
