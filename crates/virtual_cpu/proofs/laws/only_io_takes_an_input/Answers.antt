use Rattle.std.proofs.Common.{◌≡◌, ◌≢◌, refl, ℤ, Option}
use Rattle.virtual_cpu.proofs.Prelude.{Letter, Io, Machine, effect_of}
use Rattle.virtual_cpu.proofs.laws.only_io_takes_an_input.Goals as goal

no-input : (letter : Letter) (m : Machine) (input other : ℤ) (copy : Option Letter) → letter ≢ Io
    → effect_of letter m input copy ≡ effect_of letter m other copy
no-input Io m input other copy differs = absurd (differs refl)
no-input _ m input other copy differs = refl

pub returns : goal.returns
returns c = no-input
