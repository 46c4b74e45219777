-- What holds of a value that may be missing, as a result.
use Rattle.std.proofs.Common.{◌≡◌, Option, None, Some, Result}
use Rattle.std.specs.Prelude.{IfOk, IfSome}
use Rattle.command_line.proofs.Prelude.{ok_or}

-- what holds of a value holds of it as a result
pub if_ok : {T E : Type 0} (P : T → Type 0) (o : Option T) (e : E) (r : Result T E)
    → r ≡ ok_or o e → IfSome o P → IfOk r P
if_ok P None e r is h = rw is tt
if_ok P (Some t) e r is h = rw is h
