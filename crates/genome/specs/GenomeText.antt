-- The two spellings of a genome (docs/FORMATS.md, "Genomes by letters" and "Genomes by names").
use Rattle.std.specs.Prelude.{ℕ, ◌-◌, List, [], ◌∷◌, Option, Result, Ok, Err, map, take, length, filter_map, nat_eq, is_none, if◌then◌else◌, ◌==◌, ◌||◌, ◌&&◌, not, Bool, ◌++◌, reverse}
use Rattle.std.specs.List.{ends_with, position_from, slice_split, before_first, flat_map}
use Rattle.instruction_set.specs.declared.letter.Letter.{Letter}
use Rattle.instruction_set.specs.Letter.{byte_of, letter_of_byte, name_of, letter_named}
use Rattle.genome.specs.declared.stop.GenomeStop.{GenomeStop}
use Rattle.genome.specs.declared.stop.GenomeStop.TheVariants.{BadLetter, BadName}
use Rattle.genome.specs.Genome.{genome_of}
use Rattle.std.specs.Option.{option_map_or}

-- the text before one final line end
abbrev pub before_line_end : List ℕ → List ℕ
before_line_end bytes =
    if ends_with nat_eq bytes (10 ∷ []) then take (length bytes - 1) bytes else bytes

-- the place of the first byte that is no letter
abbrev pub first_bad_byte : List ℕ → Option ℕ
first_bad_byte text = position_from (λ byte. is_none (letter_of_byte byte)) 0 text

-- the letters of a text by letters, or the place, from 0, of its first byte that is none
abbrev pub letters_of : List ℕ → Result (List Letter) ℕ
letters_of bytes =
    option_map_or Err (first_bad_byte (before_line_end bytes))
    (Ok (filter_map letter_of_byte (before_line_end bytes)))

-- the genome of a reading, or what refuses it; this is what refuses a place
abbrev pub genome_by : (ℕ → GenomeStop) → Result (List Letter) ℕ → Result (List Letter) GenomeStop
genome_by stop (Ok ls) = genome_of ls
genome_by stop (Err place) = Err (stop place)

-- the genome that a text spells by letters, or what refuses it
abbrev pub spelled_by_letters : List ℕ → Result (List Letter) GenomeStop
spelled_by_letters bytes = genome_by BadLetter (letters_of bytes)

-- letters spelled by letters
abbrev pub letters_text_of : List Letter → List ℕ
letters_text_of ls = map byte_of ls

-- a space, a tab or a carriage return
abbrev pub is_blank : ℕ → Bool
is_blank byte = byte == 32 || byte == 9 || byte == 13

-- what is left without the blanks at the front
abbrev pub after_blanks : List ℕ → List ℕ
after_blanks [] = []
after_blanks (byte ∷ bytes) = if is_blank byte then after_blanks bytes else byte ∷ bytes

-- what is left without the blanks at both ends
abbrev pub between_blanks : List ℕ → List ℕ
between_blanks bytes = reverse (after_blanks (reverse (after_blanks bytes)))

-- the lines of a text by names; one after the last line end is empty, and so is skipped
abbrev pub name_lines : List ℕ → List (List ℕ)
name_lines bytes = slice_split (λ byte. byte == 10) bytes

-- the word of a line: what stands before a comment, without the blanks around it
unfoldable pub word_of_line : List ℕ → List ℕ
word_of_line line = between_blanks (before_first (λ byte. byte == 35) line)

-- a line has a word that is no name
unfoldable pub is_bad_line : List ℕ → Bool
is_bad_line line = not (length (word_of_line line) == 0)
    && is_none (letter_named (word_of_line line))

-- the letters of a text by names, or the number, from 1, of its first line that has none
abbrev pub names_of : List ℕ → Result (List Letter) ℕ
names_of bytes =
    option_map_or Err (position_from is_bad_line 1 (name_lines bytes))
    (Ok (filter_map (λ line. letter_named (word_of_line line)) (name_lines bytes)))

-- the genome that a text spells by names, or what refuses it
abbrev pub spelled_by_names : List ℕ → Result (List Letter) GenomeStop
spelled_by_names bytes = genome_by BadName (names_of bytes)

-- letters spelled by names, a line each
abbrev pub names_text_of : List Letter → List ℕ
names_text_of ls = flat_map (λ letter. name_of letter ++ 10 ∷ []) ls
