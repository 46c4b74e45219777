use Rattle.numerals.proofs.SpellingLemmas.{numbers_spell}
use Rattle.numerals.proofs.laws.one_spelling.Goals as goal

pub returns : goal.returns
returns c = numbers_spell
