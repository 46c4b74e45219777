use Rattle.log_lines.proofs.LineLaws.{lines_spell}
use Rattle.log_lines.proofs.laws.one_spelling.Goals as goal

pub returns : goal.returns
returns c = lines_spell
