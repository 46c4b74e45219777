-- Reading word by word, from what is left of a line (docs/FORMATS.md, "The log"): None at its end,
-- else the bytes behind the next space. For example, behind the `7` of `7 12 45` it is `12 45`,
-- with the words `12` and `45`. Public functions cite the definitions up to `words_of`.
use Rattle.std.specs.Prelude.{ℕ, List, [], ◌∷◌, Option, Some, None, ◌==◌, if◌then◌else◌, option_and_then, option_map}
use Rattle.log_lines.specs.Prelude.{code, slice_split, Letter, Change}
use Rattle.log_lines.specs.declared.reading.Arrival.{Arrival}
use Rattle.log_lines.specs.declared.reading.Newborn.{Newborn}
use Rattle.log_lines.specs.declared.reading.Opening.{Opening}
use Rattle.log_lines.specs.Fields.{number}
use Rattle.log_lines.specs.Kinds.{small, large, side, over_field}

-- the pieces of what is left of a text, cut at each such byte; no piece where nothing is left
abbrev pub pieces_of : ℕ → Option (List ℕ) → List (List ℕ)
pieces_of byte None = []
pieces_of byte (Some rest) = slice_split (λ b. b == byte) rest

-- the words of what is left of a line, cut at each space
abbrev pub words_of : Option (List ℕ) → List (List ℕ)
words_of rest = pieces_of (code " ") rest

-- what is left behind a word: `Some None` at the end of the line, `None` where the word goes on
abbrev pub after_word : List ℕ → Option (Option (List ℕ))
after_word [] = Some None
after_word (b ∷ bs) = if b == code " " then Some (Some bs) else None

-- what is read from the first word, and the words behind it
abbrev pub read_first :
    {A : Type 0} → (List ℕ → Option A) → List (List ℕ) → Option (A × List (List ℕ))
read_first read [] = None
read_first read (word ∷ words) = option_map (λ a. (a, words)) (read word)

-- what is read from the first word and then from those behind it, put together, and the words left
abbrev pub read_then :
    {A B C : Type 0} → (List ℕ → Option A) → (List (List ℕ) → Option (B × List (List ℕ)))
    → (A → B → C) → List (List ℕ) → Option (C × List (List ℕ))
read_then read others put words =
    option_and_then (λ (a, left). option_map (λ (b, behind). (put a b, behind)) (others left))
    (read_first read words)

-- an arrival, that is the update, the cell and who stood there, and the words behind these three
abbrev pub read_arrival : List (List ℕ) → Option (Arrival × List (List ℕ))
read_arrival words =
    read_then small.read
    (read_then small.read (read_first over_field.read) (λ cell over. (cell, over)))
    (λ update (cell, over). record { update = update; cell = cell; over = over }) words

-- the fields of a birth before its record, and the words behind them
abbrev pub read_newborn : List (List ℕ) → Option (Newborn × List (List ℕ))
read_newborn words =
    read_then large.read
    (read_then large.read read_arrival (λ parent arrival. (parent, arrival)))
    (λ id (parent, arrival). record { id = id; parent = parent; arrival = arrival }) words

-- the fields of a first line before its genome, and the words behind them
abbrev pub read_opening : List (List ℕ) → Option (Opening × List (List ℕ))
read_opening words =
    read_then (number 1 2).read
    (read_then side.read
    (read_then side.read (read_first small.read) (λ height cell. (height, cell)))
    (λ width behind. (width, behind)))
    (λ version (width, (height, cell)). record {
      version = version;
      width = width;
      height = height;
      cell = cell;
    }) words

-- a way to make a change of a place and a letter: a point or an insertion
abbrev pub ToChange : Type 0
ToChange = ℕ → Letter → Change
