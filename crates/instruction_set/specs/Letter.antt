-- The instruction table (docs/MACHINE.md, "The instruction table").
use Rattle.std.specs.Prelude.{ℕ, ◌+◌, Bool, List, Option, None, Some, codes, [], ◌∷◌, find, ◌==◌}
use Rattle.std.specs.Cmp.Lexicographic.{pointwise}
use Rattle.std.specs.Str.{bytes_eq}
use Rattle.instruction_set.specs.declared.letter.Letter.{Letter}
use Rattle.instruction_set.specs.declared.letter.Letter.TheVariants.{NopA, NopB, NopC, IfNEqu, IfLess, IfLabel, MovHead, JmpHead, GetHead, SetFlow, ShiftR, ShiftL, Inc, Dec, Push, Pop, SwapStk, Swap, Add, Sub, Nand, HCopy, HAlloc, HDivide, Io, HSearch}
use Rattle.instruction_set.specs.declared.letter.Class.{Class}
use Rattle.instruction_set.specs.declared.letter.Class.TheVariants.{Nop, Register, Head, Template, Plain}

-- every letter, in the order of the table
abbrev pub letter_table : List Letter
letter_table = NopA ∷ NopB ∷ NopC ∷ IfNEqu ∷ IfLess ∷ IfLabel ∷ MovHead ∷ JmpHead ∷ GetHead
    ∷ SetFlow
    ∷ ShiftR ∷ ShiftL ∷ Inc ∷ Dec ∷ Push ∷ Pop ∷ SwapStk ∷ Swap ∷ Add ∷ Sub ∷ Nand ∷ HCopy ∷ HAlloc
    ∷ HDivide ∷ Io ∷ HSearch ∷ []

-- a row of the table: its place, from 0, its name, and what the operand of its letter is
pub record LetterRow : Type 0 where
  pub place : ℕ
  pub name : List ℕ
  pub operand : Class

-- the row of these three
abbrev pub row : ℕ → List ℕ → Class → LetterRow
row place name operand = record { place = place; name = name; operand = operand }

-- the table: the row of each letter
abbrev pub letter_row : Letter → LetterRow
letter_row NopA = row 0 (codes "nop-A") Nop
letter_row NopB = row 1 (codes "nop-B") Nop
letter_row NopC = row 2 (codes "nop-C") Nop
letter_row IfNEqu = row 3 (codes "if-n-equ") Register
letter_row IfLess = row 4 (codes "if-less") Register
letter_row IfLabel = row 5 (codes "if-label") Template
letter_row MovHead = row 6 (codes "mov-head") Head
letter_row JmpHead = row 7 (codes "jmp-head") Head
letter_row GetHead = row 8 (codes "get-head") Head
letter_row SetFlow = row 9 (codes "set-flow") Register
letter_row ShiftR = row 10 (codes "shift-r") Register
letter_row ShiftL = row 11 (codes "shift-l") Register
letter_row Inc = row 12 (codes "inc") Register
letter_row Dec = row 13 (codes "dec") Register
letter_row Push = row 14 (codes "push") Register
letter_row Pop = row 15 (codes "pop") Register
letter_row SwapStk = row 16 (codes "swap-stk") Plain
letter_row Swap = row 17 (codes "swap") Register
letter_row Add = row 18 (codes "add") Register
letter_row Sub = row 19 (codes "sub") Register
letter_row Nand = row 20 (codes "nand") Register
letter_row HCopy = row 21 (codes "h-copy") Plain
letter_row HAlloc = row 22 (codes "h-alloc") Plain
letter_row HDivide = row 23 (codes "h-divide") Plain
letter_row Io = row 24 (codes "IO") Register
letter_row HSearch = row 25 (codes "h-search") Template

-- the place of a letter in the table
abbrev pub index_of : Letter → ℕ
index_of letter = (letter_row letter).place

-- what the operand of a letter is
abbrev pub class_of : Letter → Class
class_of letter = (letter_row letter).operand

-- the name of a letter
abbrev pub name_of : Letter → List ℕ
name_of letter = (letter_row letter).name

-- a letter is written as the byte `a` to `z`
abbrev pub byte_of : Letter → ℕ
byte_of letter = 97 + index_of letter

-- both are one letter
abbrev pub same_letter : Letter → Letter → Bool
same_letter letter other = index_of letter == index_of other

-- both are one list of letters
abbrev pub same_letters : List Letter → List Letter → Bool
same_letters letters others = pointwise same_letter letters others

-- the complement of a nop; no other letter has one
abbrev pub complement_of : Letter → Option Letter
complement_of NopA = Some NopB
complement_of NopB = Some NopC
complement_of NopC = Some NopA
complement_of _ = None

-- the letter of an index
unfoldable pub letter_at : ℕ → Option Letter
letter_at index = find (λ letter. index_of letter == index) letter_table

-- the letter that has this byte
unfoldable pub letter_of_byte : ℕ → Option Letter
letter_of_byte byte = find (λ letter. byte_of letter == byte) letter_table

-- the letter that has this name
unfoldable pub letter_named : List ℕ → Option Letter
letter_named name = find (λ letter. bytes_eq (name_of letter) name) letter_table
