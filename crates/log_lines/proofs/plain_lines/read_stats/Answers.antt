use Rattle.std.proofs.Common.{ℕ, List, Option, Bor, ap}
use Rattle.std.specs.Prelude.{option_copied, option_map}
use Rattle.log_lines.proofs.Prelude.{count_form, large, small, times, ◌◂◌, words_of}
use Rattle.log_lines.proofs.TimesLemmas.{both_read}
use Rattle.log_lines.proofs.plain_lines.read_stats.Goals as goal

-- the words that are left
abbrev words : Option (Bor (List ℕ)) → List (List ℕ)
words rest = words_of (option_copied rest)

pub returns : goal.returns
returns c =
    let after_merit = times 9 large in
    let after_genotypes = large ◂ after_merit in
    let after_deaths = large ◂ after_genotypes in
    let after_births = large ◂ after_deaths in
    let after_living = large ◂ after_births in
    let after_update = large ◂ after_living in
    ap (λ o. option_map count_form.line o)
    (both_read small.read after_update.read (words c.args.rest) (words c.in_ok-update.rest)
    c.in_ok-update.update _ c.in_ok-update.ensures
    (both_read large.read after_living.read (words c.in_ok-update.rest) (words c.in_ok-living.rest)
    c.in_ok-living.living _ c.in_ok-living.ensures
    (both_read large.read after_births.read (words c.in_ok-living.rest) (words c.in_ok-births.rest)
    c.in_ok-births.births _ c.in_ok-births.ensures
    (both_read large.read after_deaths.read (words c.in_ok-births.rest) (words c.in_ok-deaths.rest)
    c.in_ok-deaths.deaths _ c.in_ok-deaths.ensures
    (both_read large.read after_genotypes.read (words c.in_ok-deaths.rest)
    (words c.in_ok-genotypes.rest) c.in_ok-genotypes.genotypes _ c.in_ok-genotypes.ensures
    (both_read large.read after_merit.read (words c.in_ok-genotypes.rest)
    (words c.in_ok-merit.rest) c.in_ok-merit.merit _ c.in_ok-merit.ensures
    c.in_ok-tasks.ensures))))))
