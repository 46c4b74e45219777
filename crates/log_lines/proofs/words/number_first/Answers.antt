use Rattle.std.proofs.Common.{◌∙◌, List, ℕ, Option, Some, None, Bor, ap, sym}
use Rattle.std.specs.Prelude.{option_copied}
use Rattle.log_lines.proofs.Prelude.{number_of, after_word, read_first, words_of}
use Rattle.log_lines.proofs.FrontLemmas.{front_none, front_number, tail_is}
use Rattle.log_lines.proofs.words.number_first.Goals as goal

pub returns-in-Some-after_word-clause-number : goal.returns-in-Some-after_word-clause-number
returns-in-Some-after_word-clause-number c =
    let found = c.in-Some-leading_number in
    let bytes = c.in-Some.bytes.now in
    let end = c.in-Some-after_word.ensures
    ∙ ap after_word (tail_is found.len bytes found.ensures.within) in
    front_number c.args.least c.args.greatest bytes found.value found.len
    (Some (option_copied c.in-Some-after_word.others)) found.ensures.number found.ensures.len
    end
    ∙ ap (λ (o : Option (Bor (List ℕ))). read_first (number_of c.args.least c.args.greatest)
    (words_of (option_copied o))) (sym c.in-Some.is)

pub returns-in-None-after_word-clause-number : goal.returns-in-None-after_word-clause-number
returns-in-None-after_word-clause-number c =
    let found = c.in-Some-leading_number in
    let bytes = c.in-Some.bytes.now in
    let end = c.in-None-after_word.ensures
    ∙ ap after_word (tail_is found.len bytes found.ensures.within) in
    front_number c.args.least c.args.greatest bytes found.value found.len None found.ensures.number
    found.ensures.len end
    ∙ ap (λ (o : Option (Bor (List ℕ))). read_first (number_of c.args.least c.args.greatest)
    (words_of (option_copied o))) (sym c.in-Some.is)

pub returns-in-None-leading_number-clause-number : goal.returns-in-None-leading_number-clause-number
returns-in-None-leading_number-clause-number c =
    front_none c.args.least c.args.greatest c.in-Some.bytes.now
    c.in-None-leading_number.ensures.number
    ∙ ap (λ (o : Option (Bor (List ℕ))). read_first (number_of c.args.least c.args.greatest)
    (words_of (option_copied o))) (sym c.in-Some.is)
