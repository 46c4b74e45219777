-- The line of a picture that is news, said of equal configurations and updates.
use Rattle.std.proofs.Common.{◌≡◌, ℕ, Option, Result, subst}
use Rattle.logged_run.proofs.Prelude.{SinkState, ConfigValues, SinkStop, WritesAll, news, pictures_text}

-- the line of the last picture, of another configuration and update that are equal to its own
pub line_as : {T : Type 0} {a b : SinkState} {r : Result T SinkStop} {here there : ConfigValues}
    {at last to : ℕ} (newest : Option ℕ) → here ≡ there → at ≡ to → last ≡ to
    → WritesAll a b (pictures_text here (news newest last at)) r
    → WritesAll a b (pictures_text there (news newest to to)) r
line_as {T = T} {a = a} {b = b} {r = r} {here = here} {at = at} {to = to} newest same is ends
    line =
    subst (λ (of : ConfigValues). WritesAll {T = T} a b (pictures_text of (news newest to to)) r)
    same
    (subst (λ (n : ℕ). WritesAll {T = T} a b (pictures_text here (news newest to n)) r) is
    (subst (λ (n : ℕ). WritesAll {T = T} a b (pictures_text here (news newest n at)) r) ends line))
