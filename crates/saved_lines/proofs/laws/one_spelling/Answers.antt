use Rattle.saved_lines.proofs.SavedLineLaws.{line_again, line_takes, line_plain}
use Rattle.saved_lines.proofs.laws.one_spelling.Goals as goal

pub returns : goal.returns
returns c =
    let numbers = c.one_spelling.ensures in
    record { again = line_again numbers; takes = line_takes numbers; one_line = line_plain numbers }
