use Rattle.std.proofs.Common.{◌≡◌, take, length}
use Rattle.std.specs.Prelude.{option_copied}
use Rattle.log_lines.proofs.Prelude.{number_of, words_of}
use Rattle.log_lines.proofs.TimesLemmas.{HasRead}
use Rattle.log_lines.proofs.plain_lines.tasks_last.Given as goal

abbrev pub invariant-loop-at : goal.invariant-loop-at
invariant-loop-at l = record {
  read : HasRead (number_of 0 18446744073709551615) (words_of (option_copied l.rest))
      (words_of (option_copied l.left)) (take l.at l.tasks);
  long : length l.tasks ≡ 9;
}
