-- A run that is saved and advanced goes on, and updates add up.
use Rattle.std.proofs.Common.{◌≡◌, ◌+◌, ap, refl, ◌++◌, append_assoc, append-nil, ℕ, zero, suc, List, Ok, arith, add-suc, add-zero}
use Rattle.avida_program.proofs.Prelude.{continued_text, later_texts, saved_state_after, saved_of, SavedState, state_of, state_of_world, saved_text, ConfigValues, rates_at, world_after, AddsUp, AdvancesExactly, AdvancesInTwo, CanAdvanceInTwo, ResumesInTwo, longer_run, CanResume, advanced_text, save_text, update_after}
use Rattle.avida_program.proofs.LongerRuns.{world_stays}
use Rattle.avida_program.proofs.SavedLemmas.{IsReadAs, read_again, reads_again}

-- updates add up
pub adds_up : (state : SavedState) (first second : ℕ) → AddsUp state first second
unfolding saved_state_after
adds_up state first zero = rw add-zero refl
adds_up state first (suc n) = rw (adds_up state first n, add-suc) refl

-- and so do their texts
texts_add_up : (state : SavedState) (first second : ℕ)
    → later_texts state first ++ later_texts (saved_state_after state first) second
    ≡ later_texts state (first + second)
texts_add_up state first zero = rw (append-nil, add-zero) refl
texts_add_up state first (suc n) =
    rw (← append_assoc, texts_add_up state first n, adds_up state first n, add-suc) refl

-- what is resumed in two parts
pub resumes_in_two : (state : SavedState) (first second : ℕ) → ResumesInTwo state first second
unfolding continued_text
resumes_in_two state first second =
    let last : (saved_state_after state first).head.update + second
    ≡ state.head.update + (first + second) = omega (arith, update_after state first) in
    record {
      log = later_texts state first;
      is_log = refl;
      goes_on = rw (← append_assoc, texts_add_up state first second, last) refl;
    }

-- what is advanced in two parts, where the world between is read again
pub advances_in_two : (bytes : List ℕ) (state : SavedState) (first second : ℕ)
    → CanAdvanceInTwo bytes state first second → IsReadAs bytes state (first + second)
    → saved_of (advanced_text state first) ≡ Ok (saved_state_after state first)
    → AdvancesInTwo bytes state first second
advances_in_two bytes state first second so read again =
    let between = saved_state_after state first in
    record {
      begins = read_again first bytes state read.is read.short (omega (arith, read.early));
      between = between;
      reads = read_again second (advanced_text state first) between again so.short
          (omega (arith, update_after state first, read.early));
      goes_on = ap saved_text (adds_up state first second);
    }

-- the state that the longer run leaves
longer_state : (config : ConfigValues) (more : ℕ) → state_of (longer_run config more)
    ≡ state_of_world config (world_after config (config.updates + more))
unfolding state_of rates_at
longer_state config more = rw (world_stays config (config.updates + more)) refl

-- a run that is saved and advanced goes on
pub run_advances : (config : ConfigValues) (more : ℕ) → CanResume config more
    → saved_of (save_text config) ≡ Ok (state_of config)
    → saved_state_after (state_of config) more
    ≡ state_of_world config (world_after config (config.updates + more))
    → AdvancesExactly config more
run_advances config more can again goes = record {
  state = state_of config;
  reads = reads_again config more can again;
  goes_on = rw (goes, longer_state config more) refl;
}
