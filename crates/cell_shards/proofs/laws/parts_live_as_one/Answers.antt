use Rattle.cell_shards.proofs.Prelude.{dead_in, newborns_in}
use Rattle.cell_shards.proofs.PartLemmas.{length-lives_of, lives_of-append, told-append}
use Rattle.cell_shards.proofs.laws.parts_live_as_one.Goals as goal

pub returns-clause-lives : goal.returns-clause-lives
returns-clause-lives c = lives_of-append

pub returns-clause-births : goal.returns-clause-births
returns-clause-births c = told-append newborns_in

pub returns-clause-deaths : goal.returns-clause-deaths
returns-clause-deaths c = told-append dead_in

pub returns-clause-count : goal.returns-clause-count
returns-clause-count c = length-lives_of
