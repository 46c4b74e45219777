use Rattle.std.proofs.Common.{◌+◌, List, Option, IfSome, subst}
use Rattle.logged_run.proofs.Prelude.{WorldPicture, ArePictures}
use Rattle.logged_run.proofs.PublishedLemmas.{heard}
use Rattle.logged_run.proofs.watching.hear_last.Goals as goal

pub returns-in-Some : goal.returns-in-Some
returns-in-Some c = λ config update begins so.
    let told : ArePictures config (update + 1) c.in-Some.note =
    subst (λ (note : Option (List WorldPicture)). IfSome note (ArePictures config (update + 1)))
    c.in-Some.is so.told in
    rw c.hear.ensures (heard config update c.args.observer.now c.in-Some.note begins told)
