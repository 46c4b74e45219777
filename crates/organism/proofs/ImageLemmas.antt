-- The machine of an organism's image.
use Rattle.std.proofs.Common.{◌≡◌, ℕ}
use Rattle.organism.proofs.Prelude.{image_of, machine_of_image, Machine, IsMachine}
use Rattle.virtual_cpu.specs.declared.cpu_image.CpuImage.{CpuImage}

-- it is the machine that the image was taken of
pub machine-again : (again : (m : Machine) → IsMachine m
    → machine_of_image (image_of m) m.birth_length m.limit ≡ m) (m : Machine) (cpu : CpuImage)
    (birth_length limit : ℕ) → IsMachine m → cpu ≡ image_of m → birth_length ≡ m.birth_length
    → limit ≡ m.limit
    → machine_of_image cpu birth_length limit ≡ m
machine-again again m cpu birth_length limit is taken same_length same_limit =
    rw (taken, same_length, same_limit) (again m is)
