use Rattle.label_search.proofs.Prelude.{letters_of}
use Rattle.label_search.proofs.SearchLemmas.{first_match-least, first_match-before_end}
use Rattle.label_search.proofs.search.find.Goals as goal

pub returns-clause-least : goal.returns-clause-least
returns-clause-least c =
    rw (c.least_match.ensures, c.as_slice.ensures.value, c.letters.ensures)
    (first_match-least c.one_index.ensures.list (letters_of c.args.memory.now)
    c.args.what.now c.requires)

pub returns-clause-before_end : goal.returns-clause-before_end
returns-clause-before_end c =
    rw (c.least_match.ensures, c.as_slice.ensures.value, c.letters.ensures)
    (first_match-before_end c.one_index.ensures.list (letters_of c.args.memory.now)
    c.args.what.now c.requires)
