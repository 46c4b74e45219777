-- Templates and the nops read last, and how a `Template` is packed into one number
-- (docs/MACHINE.md, "Templates").
use Rattle.std.specs.Prelude.{map, unwrap_or, ℕ, ◌≤◌, ◌+◌, ◌-◌, ◌%◌, Bool, true, false, List, [], ◌∷◌, ◌++◌, length, drop, take_while, slice_index_or, if◌then◌else◌, zero, suc, ◌*◌, ◌/◌, ◌^◌, ◌==◌, reverse}
use Rattle.std.specs.List.{AllPass, range_with_len}
use Rattle.instruction_set.specs.declared.letter.Letter.{Letter}
use Rattle.instruction_set.specs.declared.letter.Letter.TheVariants.{NopA, NopB, NopC}
use Rattle.instruction_set.specs.Letter.{complement_of}
use Rattle.label_search.specs.declared.template.Template.TheInside.{Inside}

-- the letters that stand in a template
abbrev pub is_nop : Letter → Bool
is_nop NopA = true
is_nop NopB = true
is_nop NopC = true
is_nop _ = false

-- at most ten letters, and all of them nops
pub record IsTemplate (letters : List Letter) : Type 0 where
  pub few : length letters ≤ 10
  pub nops : AllPass is_nop letters

-- the last ten of a list
abbrev pub last_ten : List Letter → List Letter
last_ten nops = drop (length nops - 10) nops

-- the nops read last, once a further letter was read: a letter that is no nop ends the list
abbrev pub nops_read : List Letter → Letter → List Letter
nops_read nops letter = if is_nop letter then last_ten (nops ++ letter ∷ []) else []

-- the complement of each nop
abbrev pub complements_of : List Letter → List Letter
complements_of nops = map (λ letter. unwrap_or (complement_of letter) letter) nops

-- the letter that stands so many places after a place, across the end to place 0
abbrev pub letter_after : List Letter → ℕ → ℕ → Letter
letter_after memory place steps = slice_index_or memory ((place + steps) % length memory) NopA

-- the nops after a place up to the first other letter, at most ten
unfoldable pub template_after : List Letter → ℕ → List Letter
template_after memory place =
    take_while is_nop (map (letter_after memory place) (range_with_len 1 10))

-- a nop as a digit; 0 stands for no nop
abbrev pub digit_of_nop : Letter → ℕ
digit_of_nop NopA = 1
digit_of_nop NopB = 2
digit_of_nop NopC = 3
digit_of_nop _ = 0

-- the nop of a digit
abbrev pub nop_of : ℕ → Letter
nop_of digit = if digit == 1 then NopA else if digit == 2 then NopB else NopC

-- the nops of a number's digits to base 4, at most so many, from the lowest digit on
unfoldable pub newest_first : ℕ → ℕ → List Letter
newest_first zero packed = []
newest_first (suc most) packed =
    if packed == 0 then [] else nop_of (packed % 4) ∷ newest_first most (packed / 4)

-- the number of some nops, the first in the lowest digit
abbrev pub packed_of : List Letter → ℕ
packed_of [] = 0
packed_of (nop ∷ nops) = packed_of nops * 4 + digit_of_nop nop

-- the nops that are packed, the oldest first
abbrev pub nops_of : Inside → List Letter
nops_of template = reverse (newest_first 10 template.packed)

-- the number once a further letter was read
abbrev pub packed_after : ℕ → Letter → ℕ
packed_after packed letter = if is_nop letter then packed % 2 ^ 18 * 4 + digit_of_nop letter else 0
