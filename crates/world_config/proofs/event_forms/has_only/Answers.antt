use Rattle.std.proofs.Common.{◌∙◌}
use Rattle.world_config.proofs.MemberLemmas.{has_only-members}
use Rattle.world_config.proofs.event_forms.has_only.Goals as goal

pub returns : goal.returns
returns c = c.keys_are_among.ensures ∙ has_only-members c.args.names.now c.args.table.now.entries
