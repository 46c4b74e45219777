use Rattle.command_line.proofs.FormLaw.{undashed_law}
use Rattle.command_line.proofs.laws.words_are_read_by_their_form.Goals as goal

pub returns : goal.returns
returns c name form positionals words simple some =
    undashed_law name form positionals words simple some
