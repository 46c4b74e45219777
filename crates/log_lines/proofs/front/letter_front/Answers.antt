use Rattle.std.proofs.Common.{sym, get_or}
use Rattle.log_lines.proofs.Prelude.{byte_of}
use Rattle.log_lines.proofs.LetterLemmas.{byte_of_letter}
use Rattle.log_lines.proofs.BirthFrontLemmas.{byte_front}
use Rattle.log_lines.proofs.front.letter_front.Goals as goal

pub returns-in_ok-letter-in-len1-up : goal.returns-in_ok-letter-in-len1-up
returns-in_ok-letter-in-len1-up c =
    let found = c.in_ok-letter-in-len1-up in
    let text = c.args.text.now in
    byte_front text (byte_of found.letter) c.in-len1-up.len_at_least
    (sym (byte_of_letter (get_or text 0 0) found.letter (sym found.ensures.letter)))
