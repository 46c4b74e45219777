use Rattle.std.proofs.Common.{◌≡◌, ℕ, ◌<◌, refl, arith}
use Rattle.random_streams.specs.declared.purpose.Purpose.{Purpose}
use Rattle.random_streams.specs.declared.purpose.Purpose.TheVariants.{Run, Place}
use Rattle.random_streams.specs.RandomStream.{stream_number}
use Rattle.random_streams.proofs.laws.streams_differ.Goals as goal

-- the number tells update, cell and purpose
stream_number-injective : (purpose other_purpose : Purpose)
    (update other_update cell other_cell : ℕ) → cell < 65536 → other_cell < 65536
    → stream_number update cell purpose ≡ stream_number other_update other_cell other_purpose
    → (update ≡ other_update) × (cell ≡ other_cell) × (purpose ≡ other_purpose)
stream_number-injective Run Run update other_update cell other_cell below other_below same =
    (omega arith, omega arith, refl)
stream_number-injective Run Place update other_update cell other_cell below other_below same =
    absurd (omega arith)
stream_number-injective Place Run update other_update cell other_cell below other_below same =
    absurd (omega arith)
stream_number-injective Place Place update other_update cell other_cell below other_below same =
    (omega arith, omega arith, refl)

pub returns : goal.returns
returns c = λ update other_update cell other_cell purpose other_purpose.
    stream_number-injective purpose other_purpose update other_update cell other_cell
