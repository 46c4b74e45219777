-- The inputs of an organism (docs/MACHINE.md, "Inputs").
use Rattle.std.specs.Prelude.{◌≡◌, ℕ, ◌+◌, ◌*◌, ◌/◌, ◌%◌, ◌^◌, List, [], ◌∷◌, take, min, map, slice_index_or}

-- the top bytes of the three inputs
abbrev pub top_bytes : List ℕ
top_bytes = 0x0F ∷ 0x33 ∷ 0x55 ∷ []

-- these are three words with the top bytes
abbrev pub HasTopBytes : List ℕ → Type 0
HasTopBytes words = map (λ word. word / 2 ^ 24) words ≡ top_bytes

-- the input at a place: its top byte over the low 24 bits of the word there
abbrev pub input_at : List ℕ → ℕ → ℕ
input_at words k = slice_index_or top_bytes k 0 * 2 ^ 24 + slice_index_or words k 0 % 2 ^ 24

-- the inputs that are made of three words
abbrev pub inputs_of : List ℕ → List ℕ
inputs_of words = input_at words 0 ∷ input_at words 1 ∷ input_at words 2 ∷ []

-- the low 24 bits of each input
abbrev pub low_of : List ℕ → List ℕ
low_of inputs = map (λ input. input % 2 ^ 24) inputs

-- the inputs that an organism has read, of which there are at most three
abbrev pub known_inputs : List ℕ → ℕ → List ℕ
known_inputs inputs read = take (min read 3) inputs
