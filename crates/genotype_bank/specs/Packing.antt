-- Letters in words (docs/ARCHITECTURE.md, "The bank of genotypes"). A letter is a digit from 1 to 26
-- of a word to base 27, and a word has up to thirteen of them.
use Rattle.std.specs.Prelude.{ℕ, zero, suc, ◌+◌, ◌-◌, ◌*◌, ◌/◌, ◌%◌, ◌==◌, List, [], ◌∷◌, ◌++◌, flat_map, fold, if◌then◌else◌, nat_lt}
use Rattle.std.specs.Option.{option_to_list}
use Rattle.instruction_set.specs.declared.letter.Letter.{Letter}
use Rattle.instruction_set.specs.Letter.{index_of, letter_at}

-- the least word of thirteen letters, which is 27 ^ 12
abbrev pub full_word : ℕ
full_word = 150094635296999121

-- the digit of a letter
abbrev pub digit_of : Letter → ℕ
digit_of letter = index_of letter + 1

-- the letters of a word, of which there are at most so many; the last is the lowest digit
unfoldable pub letters_within : ℕ → ℕ → List Letter
letters_within zero word = []
letters_within (suc most) word =
    if word == 0
    then []
    else letters_within most (word / 27) ++ option_to_list (letter_at (word % 27 - 1))

-- the letters of words, in their order
abbrev pub unpacked : List ℕ → List Letter
unpacked words = flat_map (letters_within 13) words

-- full words, and the last one
pub record Packing : Type 0 where
  pub full : List ℕ
  pub last : ℕ

-- these full words, and this last one
abbrev pub packing : List ℕ → ℕ → Packing
packing full last = record { full = full; last = last }

-- with one letter more, for which the last word has room or not
abbrev pub with_letter : Packing → Letter → Packing
with_letter so_far letter =
    if nat_lt so_far.last full_word
    then packing so_far.full (so_far.last * 27 + digit_of letter)
    else packing (so_far.full ++ so_far.last ∷ []) (digit_of letter)

-- some letters, one after another
abbrev pub packing_of : List Letter → Packing
packing_of letters = fold with_letter (packing [] 0) letters

-- all words
abbrev pub words_in : Packing → List ℕ
words_in so_far = so_far.full ++ so_far.last ∷ []

-- the words of some letters
abbrev pub packed : List Letter → List ℕ
packed letters = words_in (packing_of letters)
