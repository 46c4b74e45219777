-- A byte counts from `a`.
use Rattle.std.proofs.Common.{◌≡◌, ◌+◌, ◌-◌, ◌%◌, ◌∙◌, sym, ap, arith, inl, inr}
use Rattle.std.proofs.lemmas.Bool.{cases_lt}
use Rattle.instruction_set.specs.Letter.{letter_at}
use Rattle.instruction_set.proofs.LetterLemmas.{letter_of_byte_at, letter_of_byte-below}
use Rattle.instruction_set.proofs.letter.Letter.from_byte.Goals as goal

pub returns-clause-letter : goal.returns-clause-letter
returns-clause-letter c = elim (cases_lt c.args.byte 97) [
  | inl below ↦
      let none = c.from_index.ensures.none.1 (omega (arith, below, c.ranges.byte.fits)) in
      grind (arith, none) ∙ sym (letter_of_byte-below c.args.byte below)
  | inr from ↦
      let wrapped : (c.args.byte + 159) % 256 ≡ c.args.byte - 97 =
      omega (arith, from, c.ranges.byte.fits) in
      c.from_index.ensures.letter ∙ ap letter_at wrapped ∙ letter_of_byte_at c.args.byte from
]
