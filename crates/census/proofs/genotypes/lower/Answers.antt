use Rattle.std.proofs.Common.{rules}
use Rattle.std.specs.HashMap.Entry.{map_with_value, map_without_entry}
use Rattle.census.proofs.GenotypeLemmas.{living-put, living-removed}
use Rattle.census.proofs.genotypes.lower.Goals as goal

pub returns-then-count-gt1-clause-living : goal.returns-then-count-gt1-clause-living
returns-then-count-gt1-clause-living c =
    let genotype = c.lower.new.self in
    let after = map_with_value c.in-Ok-Occupied.field-0 genotype in
    let living = living-put c.args.genotypes.now after c.args.key genotype
    (c.in-Ok-Occupied.ensures.update.1 genotype) in
    search (rules, living)

pub returns-else-count-gt1-clause-living : goal.returns-else-count-gt1-clause-living
returns-else-count-gt1-clause-living c =
    let after = map_without_entry c.in-Ok-Occupied.field-0 in
    let living = living-removed c.args.genotypes.now after c.args.key
    c.in-Ok-Occupied.ensures.removal.1 (search rules) in
    search (rules, living)
