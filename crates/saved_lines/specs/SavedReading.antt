-- The line of a saved world that a text has (docs/FORMATS.md, "Saved worlds").
use Rattle.std.specs.Prelude.{ℕ, ◌==◌, ◌&&◌, Bool, nat_le, List, [], ◌∷◌, drop, Option, None, if◌then◌else◌, option_and_then, option_map, slice_index_or}
use Rattle.saved_lines.specs.Prelude.{bytes_eq, slice_split, Letter, inputs_of, tasks_of, given, large, last, CpuImage}
use Rattle.saved_lines.specs.SavedValues.{HeadValues, OrganismValues}
use Rattle.saved_lines.specs.SavedTables.{MachineFields, head_row, organism_row, machine_row}
use Rattle.saved_lines.specs.SavedText.{SavedLine, Head, Organism, Machine, Count}

-- the number at a place of a line
abbrev pub saved_number_at : List ℕ → ℕ → ℕ
saved_number_at numbers at = slice_index_or numbers at 0

-- whether the number at a place is 1
abbrev pub saved_flag_at : List ℕ → ℕ → Bool
saved_flag_at numbers at = saved_number_at numbers at == 1

-- the head of the numbers of its line
abbrev pub head_of : List ℕ → HeadValues
head_of numbers = record {
  width = saved_number_at numbers 1;
  height = saved_number_at numbers 2;
  update = saved_number_at numbers 3;
  next_id = saved_number_at numbers 4;
  seed = saved_number_at numbers 5;
  average_slices = saved_number_at numbers 6;
  death = saved_flag_at numbers 7;
  age_limit = saved_number_at numbers 8;
  rates = record {
    copy = saved_number_at numbers 9;
    insert = saved_number_at numbers 10;
    delete = saved_number_at numbers 11;
    site_point = saved_number_at numbers 12;
    site_insert = saved_number_at numbers 13;
    site_delete = saved_number_at numbers 14;
  };
  prefer_empty = saved_flag_at numbers 15;
  rules = record {
    least = saved_number_at numbers 19;
    greatest = saved_number_at numbers 20;
    executed_percent = saved_number_at numbers 17;
    copied_percent = saved_number_at numbers 18;
    need_alloc = saved_flag_at numbers 16;
  };
  memory_limit = saved_number_at numbers 21;
}

-- the least length is not above the greatest, nor that above the limit of memory
abbrev pub are_ordered : HeadValues → Bool
are_ordered head =
    nat_le head.rules.least head.rules.greatest && nat_le head.rules.greatest head.memory_limit

-- the line of a head, where its lengths are in order
abbrev pub saved_head_line : List ℕ → Option SavedLine
saved_head_line numbers = given (are_ordered (head_of numbers)) (Head (head_of numbers))

-- the organism of the numbers of its line and its genome
abbrev pub organism_at : List ℕ → List Letter → OrganismValues
organism_at numbers genome = record {
  cell = saved_number_at numbers 0;
  id = saved_number_at numbers 1;
  merit = saved_number_at numbers 2;
  credited = tasks_of (saved_number_at numbers 3);
  age = saved_number_at numbers 4;
  read = saved_number_at numbers 5;
  gestation = tasks_of (saved_number_at numbers 6);
  inputs = inputs_of (drop 7 numbers);
  genome = genome;
}

-- the line of an organism
abbrev pub organism_of : List ℕ × List Letter → SavedLine
organism_of p = Organism (organism_at p.0 p.1)

-- the machine of the fields of its line
abbrev pub machine_at : MachineFields → CpuImage
machine_at (registers, (ns, (nops, (first, (second, (memory, (clean, (executed, copied)))))))) =
    record {
      registers = registers;
      active = saved_number_at ns 0;
      heads = saved_number_at ns 1 ∷ saved_number_at ns 2 ∷ saved_number_at ns 3
          ∷ saved_number_at ns 4 ∷ [];
      pending = saved_flag_at ns 5;
      nops = nops;
      first = first;
      second = second;
      memory = memory;
      clean = clean;
      executed = executed;
      copied = copied;
    }

-- the line of a machine
abbrev pub machine_of : MachineFields → SavedLine
machine_of fields = Machine (machine_at fields)

-- the line with this mark and these fields
abbrev pub read_form : List ℕ → List (List ℕ) → Option SavedLine
read_form mark words =
    if bytes_eq mark (83 ∷ []) then option_and_then saved_head_line (head_row.read words)
    else if bytes_eq mark (79 ∷ []) then option_map organism_of (organism_row.read words)
    else if bytes_eq mark (77 ∷ []) then option_map machine_of (machine_row.read words)
    else if bytes_eq mark (90 ∷ []) then option_map Count ((last large).read words)
    else None

-- the line of words, the first of which is the mark
abbrev pub read_saved_words : List (List ℕ) → Option SavedLine
read_saved_words [] = None
read_saved_words (mark ∷ words) = read_form mark words

-- the line that has this text before its newline, or none
unfoldable pub saved_line_of : List ℕ → Option SavedLine
saved_line_of bytes = read_saved_words (slice_split (λ b. b == 32) bytes)
