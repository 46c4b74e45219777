use Rattle.std.proofs.Common.{IfOk, subst, sym}
use Rattle.logged_run.proofs.Prelude.{ConfigValues, IsBeginning, IsNew}
use Rattle.logged_run.proofs.beginning.begin.Goals as goal

pub begin_published-requires : goal.begin_published-requires
begin_published-requires g c =
    subst (λ (of : ConfigValues). IsNew of c.in_ok-progress.progress)
    (sym c.in_ok-progress.ensures.world_config) c.in_ok-progress.ensures

pub returns : goal.returns
returns g c =
    subst (λ (of : ConfigValues). IfOk c.begin_published.result (IsBeginning of))
    c.in_ok-progress.ensures.world_config c.begin_published.ensures
