-- No letter has a name that is not found.
use Rattle.std.proofs.Common.{◌≢◌, ◌↔◌, Option, subst, sym}
use Rattle.std.specs.Prelude.{IsNone}
use Rattle.instruction_set.specs.declared.letter.Letter.{Letter}
use Rattle.instruction_set.specs.Letter.{name_of}
use Rattle.instruction_set.proofs.LetterLemmas.{letter_named-None}
use Rattle.instruction_set.proofs.letter.Letter.from_name.Goals as goal

pub returns-clause-none : goal.returns-clause-none
returns-clause-none c = let P : Option Letter → Type 0 = λ found. IsNone found
    ↔ ((letter : Letter) → name_of letter ≢ c.args.name.now) in
    subst P (sym c.find_named.ensures) (letter_named-None c.args.name.now)
