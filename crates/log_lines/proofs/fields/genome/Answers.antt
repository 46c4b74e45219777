use Rattle.std.proofs.Common.{◌≡◌, ◌∙◌, Some}
use Rattle.log_lines.proofs.Prelude.{genome_of_word}
use Rattle.log_lines.proofs.GenomeLemmas.{genome_given}
use Rattle.log_lines.proofs.fields.genome.Goals as goal

pub returns-in-Some : goal.returns-in-Some
returns-in-Some c =
    let letters = c.in-Some.letters.items in
    let read : Some letters ≡ genome_of_word c.args.word.now =
    rw c.in-Some.is at c.in_ok-letters.ensures in
    c.genome_from.ensures ∙ genome_given c.args.word.now letters read
