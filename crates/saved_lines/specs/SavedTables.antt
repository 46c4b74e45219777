-- The tables by which the lines of a saved world are read: a row of fields for each line, with the
-- ranges of its numbers (docs/FORMATS.md, "Saved worlds").
use Rattle.std.specs.Prelude.{ℕ, ℤ, Bool, List, [], ◌∷◌}
use Rattle.saved_lines.specs.Prelude.{Letter, genome_field, Row, last, ◌◂◌}
use Rattle.saved_lines.specs.SavedFields.{signed, nops, marks}
use Rattle.saved_lines.specs.declared.range.Range.{Range}
use Rattle.saved_lines.specs.SavedRows.{from_to, several, within, whole, ◌◁◌}

-- a number below 2 ^ 32
abbrev pub any_small : Range
any_small = from_to 0 4294967295

-- a number below 2 ^ 64
abbrev pub any_large : Range
any_large = from_to 0 18446744073709551615

-- 0 or 1
abbrev pub any_flag : Range
any_flag = from_to 0 1

-- parts per million
abbrev pub any_rate : Range
any_rate = from_to 0 1000000

-- the ranges of the first line: its version, and the values of a head, in lines like `head_numbers`
abbrev pub head_ranges : List Range
head_ranges =
    from_to 1 1 ∷ from_to 1 256 ∷ from_to 1 256 ∷ from_to 0 1000000
    ∷ from_to 1 4611686018427387904 ∷ from_to 0 9223372036854775807
    ∷ from_to 1 1000 ∷ any_flag ∷ from_to 1 1000
    ∷ any_rate ∷ any_rate ∷ any_rate ∷ any_rate ∷ any_rate ∷ any_rate
    ∷ any_flag ∷ any_flag ∷ from_to 1 100 ∷ from_to 1 100
    ∷ from_to 8 8192 ∷ from_to 8 8192 ∷ from_to 8 8192 ∷ []

-- the first line
abbrev pub head_row : Row (List ℕ)
head_row = whole (within head_ranges)

-- cell, id, merit; credited set, age, inputs read, gestation set; low 24 bits of the three inputs
abbrev pub organism_ranges : List Range
organism_ranges =
    any_small ∷ any_large ∷ any_large
    ∷ from_to 0 511 ∷ any_large ∷ any_large ∷ from_to 0 511
    ∷ from_to 0 16777215 ∷ from_to 0 16777215 ∷ from_to 0 16777215 ∷ []

-- the line of an organism: numbers, and its genome
abbrev pub organism_row : Row (List ℕ × List Letter)
organism_row = within organism_ranges ◁ last genome_field

-- active stack, IP, READ, WRITE, FLOW, and whether an allocation is pending
abbrev pub machine_ranges : List Range
machine_ranges =
    any_flag ∷ any_small ∷ any_small ∷ any_small ∷ any_small ∷ any_flag ∷ []

-- memory, clean text, and the places that are marked executed and copied
abbrev pub texts_row : Row (List Letter × (List Letter × (List Bool × List Bool)))
texts_row = genome_field ◂ (genome_field ◂ (marks ◂ last marks))

-- the fields of a machine's line: registers, numbers, nops read last, stacks, and the four texts
abbrev pub MachineFields : Type 0
MachineFields = List ℤ × (List ℕ × (List Letter × (List ℤ × (List ℤ
    × (List Letter × (List Letter × (List Bool × List Bool)))))))

-- the line of a machine
abbrev pub machine_row : Row MachineFields
machine_row =
    several 3 signed ◁ (within machine_ranges ◁ (nops ◂ (several 10 signed
    ◁ (several 10 signed ◁ texts_row))))
