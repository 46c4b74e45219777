use Rattle.lineage_log.proofs.KeepingLemmas.{kept_fewer, kept_more, kept_same, line_kept, link_stays}
use Rattle.lineage_log.proofs.laws.keeping_goes_on.Goals as goal

pub returns-clause-more : goal.returns-clause-more
returns-clause-more c everyone living link older newest below parent =
    kept_more everyone living link older newest below parent

pub returns-clause-fewer : goal.returns-clause-fewer
returns-clause-fewer c everyone living left older fewer =
    kept_fewer everyone living older left fewer

pub returns-clause-lines : goal.returns-clause-lines
returns-clause-lines c everyone living id older lives = line_kept everyone living older id lives

pub returns-clause-links : goal.returns-clause-links
returns-clause-links c everyone living id older lives = link_stays everyone living older id lives

pub returns-clause-same : goal.returns-clause-same
returns-clause-same c everyone living others same = kept_same everyone living others same
