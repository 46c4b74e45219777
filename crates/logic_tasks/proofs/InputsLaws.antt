-- Inputs that are made of three words have the top bytes.
use Rattle.std.proofs.Common.{◌≡◌, refl, ℕ, ◌+◌, ◌*◌, ◌/◌, ◌%◌, ◌^◌, List, arith}
use Rattle.std.specs.Prelude.{slice_index_or}
use Rattle.logic_tasks.specs.Inputs.{HasTopBytes, inputs_of}

-- the top byte of an input
input_top : (top n : ℕ) → (top * 2 ^ 24 + n % 2 ^ 24) / 2 ^ 24 ≡ top
input_top top n = omega arith

-- the inputs that are made of three words have the top bytes
pub inputs_of-top : (words : List ℕ) → HasTopBytes (inputs_of words)
inputs_of-top words =
    rw (
      input_top 15 (slice_index_or words 0 0),
      input_top 51 (slice_index_or words 1 0),
      input_top 85 (slice_index_or words 2 0),
    ) refl
