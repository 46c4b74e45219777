use Rattle.std.proofs.Common.{◌∙◌, ap, option_map, string_bytes}
use Rattle.world_config.proofs.UnknownLemmas.{bytes_of_ref, first_is_least}
use Rattle.world_config.proofs.unknown.least_unknown.Goals as goal

pub returns : goal.returns
returns c =
    bytes_of_ref string_bytes c.first_unknown.result
    ∙ ap (option_map string_bytes) c.first_unknown.ensures.first
    ∙ first_is_least c.args.table.now.entries c.first_unknown.ensures.ordered
