use Rattle.std.proofs.Common.{[], subst}
use Rattle.phylogeny.proofs.Prelude.{most_recent_common_ancestor, TellsLatestCommon, Pedigree, parents_in, standing_after}
use Rattle.phylogeny.proofs.CommonLemmas.{tells_latest}
use Rattle.phylogeny.proofs.LogLemmas.{good_tells, pedigree_is}
use Rattle.phylogeny.proofs.laws.common_ancestors_are_latest.Goals as goal

pub returns : goal.returns
returns c lines good =
    let told = good_tells lines good in
    subst (λ (p : Pedigree). TellsLatestCommon p (most_recent_common_ancestor p))
    (pedigree_is lines told)
    (tells_latest (parents_in lines) (standing_after [] lines) told.sound)
