-- The lines of a saved world, and the text of each (docs/FORMATS.md, "Saved worlds"): a mark, and
-- words, each behind a space.
use Rattle.saved_lines.specs.Prelude.{signed_decimal, Letter, byte_of, low_of, bits_of_tasks, words_text, CpuImage}
use Prim.Native.Char.{code}
use Rattle.std.specs.Prelude.{ℕ, ℤ, Bool, true, false, List, [], ◌∷◌, ◌++◌, map, if◌then◌else◌, slice_index_or}
use Rattle.log_lines.specs.Line.{decimals}
use Rattle.saved_lines.specs.SavedValues.{HeadValues, OrganismValues}

-- one line of a saved world
pub data SavedLine : Type 0 where
  Head : HeadValues → SavedLine
  Organism : OrganismValues → SavedLine
  Machine : CpuImage → SavedLine
  Count : (organisms : ℕ) → SavedLine

-- 1 for true, and 0 for false
abbrev pub flag_number : Bool → ℕ
flag_number is_set = if is_set then 1 else 0

-- the numbers of the first line
abbrev pub head_numbers : HeadValues → List ℕ
head_numbers head =
    1 ∷ head.width ∷ head.height ∷ head.update
    ∷ head.next_id ∷ head.seed
    ∷ head.average_slices ∷ flag_number head.death ∷ head.age_limit
    ∷ head.rates.copy ∷ head.rates.insert ∷ head.rates.delete
    ∷ head.rates.site_point ∷ head.rates.site_insert ∷ head.rates.site_delete
    ∷ flag_number head.prefer_empty ∷ flag_number head.rules.need_alloc
    ∷ head.rules.executed_percent ∷ head.rules.copied_percent
    ∷ head.rules.least ∷ head.rules.greatest ∷ head.memory_limit ∷ []

-- the numbers of an organism's line
abbrev pub organism_numbers : OrganismValues → List ℕ
organism_numbers o =
    o.cell ∷ o.id ∷ o.merit
    ∷ bits_of_tasks o.credited ∷ o.age ∷ o.read ∷ bits_of_tasks o.gestation
    ∷ slice_index_or (low_of o.inputs) 0 0
    ∷ slice_index_or (low_of o.inputs) 1 0
    ∷ slice_index_or (low_of o.inputs) 2 0 ∷ []

-- the numbers of a machine's line
abbrev pub machine_numbers : CpuImage → List ℕ
machine_numbers image =
    image.active
    ∷ slice_index_or image.heads 0 0 ∷ slice_index_or image.heads 1 0
    ∷ slice_index_or image.heads 2 0 ∷ slice_index_or image.heads 3 0
    ∷ flag_number image.pending ∷ []

-- 1 for a marked place, and 0 for another
abbrev pub digit_of : Bool → ℕ
digit_of true = code "1"
digit_of false = code "0"

-- a dash for no nops, or their letters
abbrev pub nops_text : List Letter → List ℕ
nops_text [] = code "-" ∷ []
nops_text (nop ∷ nops) = map byte_of (nop ∷ nops)

-- a word for each number of 32 bits; one below 0 has a minus
abbrev pub signed_words : List ℤ → List (List ℕ)
signed_words numbers = map signed_decimal numbers

-- registers, numbers, nops read last, stacks, memory, clean text, places marked executed and copied
abbrev pub machine_words : CpuImage → List (List ℕ)
machine_words m =
    signed_words m.registers ++ (decimals (machine_numbers m) ++ (nops_text m.nops
    ∷ signed_words m.first ++ (signed_words m.second ++ (map byte_of m.memory ∷ map byte_of m.clean
    ∷ map digit_of m.executed ∷ map digit_of m.copied ∷ []))))

-- a line without its newline
abbrev pub saved_row_text : SavedLine → List ℕ
saved_row_text (Head head) = code "S" ∷ words_text (decimals (head_numbers head))
saved_row_text (Organism o) =
    code "O" ∷ words_text (decimals (organism_numbers o) ++ map byte_of o.genome ∷ [])
saved_row_text (Machine m) = code "M" ∷ words_text (machine_words m)
saved_row_text (Count organisms) = code "Z" ∷ words_text (decimals (organisms ∷ []))

-- a line with its newline
abbrev pub saved_line_text : SavedLine → List ℕ
saved_line_text line = saved_row_text line ++ code "\n" ∷ []

-- the line of a head
unfoldable pub saved_head_text : HeadValues → List ℕ
saved_head_text head = saved_line_text (Head head)

-- the line of an organism
unfoldable pub organism_text : OrganismValues → List ℕ
organism_text o = saved_line_text (Organism o)

-- the line of a machine
unfoldable pub machine_text : CpuImage → List ℕ
machine_text image = saved_line_text (Machine image)

-- the two lines of an organism
abbrev pub resident_text : OrganismValues → CpuImage → List ℕ
resident_text o image = organism_text o ++ machine_text image

-- the last line, with the number of organisms
unfoldable pub count_text : ℕ → List ℕ
count_text organisms = saved_line_text (Count organisms)
