use Rattle.std.proofs.Common.{rules, ◌≡◌, ap, arith, Option, Some}
use Rattle.std.specs.HashMap.Entry.{map_with_value}
use Rattle.std.specs.Option.{option_map, unwrap_or}
use Rattle.census.specs.Counts.{GenotypeCount, genotype_at}
use Rattle.census.proofs.GenotypeLemmas.{count_under-le-living, living-put}
use Rattle.census.proofs.genotypes.raise.Goals as goal

pub raise-requires : goal.raise-requires
raise-requires c =
    let genotypes = c.args.genotypes.now.entries in
    let found : genotype_at genotypes c.args.key ≡ Some c.into_mut.result.now = search rules in
    omega (
      arith,
      count_under-le-living genotypes c.args.key,
      ap (λ (o : Option GenotypeCount). unwrap_or (option_map (λ g. g.count) o) 0) found,
    )

pub returns-in-Occupied-clause-living : goal.returns-in-Occupied-clause-living
returns-in-Occupied-clause-living c =
    let genotype = c.raise.new.self in
    let after = map_with_value c.in_ok-place.field-0 genotype in
    let living = living-put c.args.genotypes.now after c.args.key genotype
    (c.in_ok-place.ensures.update.1 genotype) in
    search (rules, living)

pub returns-in_ok-genome-in-Vacant-clause-living :
    goal.returns-in_ok-genome-in-Vacant-clause-living
returns-in_ok-genome-in-Vacant-clause-living c =
    let genotype = c.new.result in
    let after = map_with_value c.in_ok-place.field-0 genotype in
    let living = living-put c.args.genotypes.now after c.args.key genotype
    (c.in_ok-place.ensures.update.1 genotype) in
    search (rules, living)
