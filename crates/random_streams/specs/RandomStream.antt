-- The numbered streams of random words (docs/WORLD.md, "Random streams").
use Rattle.std.specs.Prelude.{◌≡◌, ℕ, ◌+◌, ◌*◌, ◌/◌, ◌%◌, ◌^◌, ◌<◌, Bool, List, ◌++◌, nat_lt, replicate, slice_index}
use Rattle.std.specs.Int.{w64, to_le_bytes}
use Rattle.rand_chacha.specs.ChaCha.{word_at, key_of}
use Rattle.random_streams.specs.declared.purpose.Purpose.{Purpose}
use Rattle.random_streams.specs.declared.purpose.Purpose.TheVariants.{Run, Place}

-- the greatest width and the greatest height of a world
abbrev pub greatest_side : ℕ
greatest_side = 256

-- cells are numbered below this
abbrev pub cell_count : ℕ
cell_count = 65536

-- the words of a stream are numbered below this
abbrev pub word_count : ℕ
word_count = 2 ^ 48

-- the greatest rate, in parts per million
abbrev pub million : ℕ
million = 1000000

-- the number of a purpose
abbrev pub purpose_number : Purpose → ℕ
purpose_number Run = 0
purpose_number Place = 1

-- the number of a stream
abbrev pub stream_number : ℕ → ℕ → Purpose → ℕ
stream_number update cell purpose = update * 131072 + cell * 2 + purpose_number purpose

-- the 32 bytes of key: the seed's eight bytes, least first, and 24 zero bytes
abbrev pub key_bytes : ℕ → List ℕ
key_bytes seed = to_le_bytes w64 seed ++ replicate 24 0

-- word k of a stream: ChaCha with eight rounds, which are four double rounds
unfoldable pub draw : ℕ → ℕ → ℕ → Purpose → ℕ → ℕ
draw seed update cell purpose k =
    word_at 4 (key_of (key_bytes seed)) (stream_number update cell purpose) k

-- a word scaled to the numbers below n
abbrev pub scaled : ℕ → ℕ → ℕ
scaled word n = word * n / 2 ^ 32

-- whether a word hits at a rate in parts per million
abbrev pub hits : ℕ → ℕ → Bool
hits word rate = nat_lt (scaled word 1000000) rate

-- a stream, and how many of its words were taken
pub record Stream : Type 0 where
  pub seed : ℕ
  pub update : ℕ
  pub cell : ℕ
  pub purpose : Purpose
  pub taken : ℕ

-- the stream of which no word was taken
abbrev pub first_of : ℕ → ℕ → ℕ → Purpose → Stream
first_of seed update cell purpose = record {
  seed = seed;
  update = update;
  cell = cell;
  purpose = purpose;
  taken = 0;
}

-- word k of a stream
abbrev pub word_of : Stream → ℕ → ℕ
word_of s k = draw s.seed s.update s.cell s.purpose k

-- the next word of a stream
abbrev pub next_word : Stream → ℕ
next_word s = word_of s s.taken

-- the stream of which n more words were taken
abbrev pub after : ℕ → Stream → Stream
after n s = record s { taken = s.taken + n }

-- these are the words of the block in which word k stands, unless that is the block's first word
abbrev pub HasBlock : List ℕ → ℕ → ℕ → ℕ → Purpose → ℕ → Type 0
HasBlock words seed update cell purpose k = (i : ℕ) → i < 16 → 0 < k % 16
    → slice_index words i ≡ draw seed update cell purpose (k / 16 * 16 + i)
