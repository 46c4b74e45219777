use Rattle.std.proofs.Common.{refl}
use Rattle.world_rules.proofs.Prelude.{digits, log_text, head_text, end_text}
use Rattle.world_rules.proofs.tiny_worlds.a_run_of_no_updates_has_two_lines.Goals as goal

pub returns : goal.returns
unfolding log_text head_text end_text digits
returns c = refl
