use Rattle.std.proofs.Common.{◌≡◌, ◌<◌, ℕ, List, [], ◌∷◌, length, None, refl, arith}
use Rattle.log_lines.proofs.Prelude.{number_of, read_lettered, ToChange}
use Rattle.log_lines.proofs.fields.lettered.Goals as goal

none_lettered : (make : ToChange) (rest : List ℕ) → length rest < 1 → None ≡ read_lettered make rest
unfolding number_of
none_lettered make [] h = refl
none_lettered make (b ∷ bs) h = absurd (omega (arith, h))

pub returns-in-empty : goal.returns-in-empty
returns-in-empty c = λ make. none_lettered make c.args.rest.now c.in-empty.len_below
