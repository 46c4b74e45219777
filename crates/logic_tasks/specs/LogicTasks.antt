-- The nine tasks, when an output does one, and sets of tasks: as numbers, where task number p of
-- the table, from 1, has the value 2^(p - 1), and as lists that tell of each task whether the set
-- has it (docs/MACHINE.md, "The tasks"; docs/FORMATS.md, "Saved worlds").
use Rattle.std.specs.Prelude.{ℕ, ℤ, Bool, true, false, not, ◌&&◌, ◌||◌, ◌==◌, List, codes, [], ◌∷◌, length, Option, find, slice_index_or, ◌+◌, ◌*◌, map, if◌then◌else◌, replicate, slice_set}
use Rattle.std.specs.Bool.{xor, beq}
use Rattle.std.specs.Int.{bit_at, cast_unsigned, w32}
use Rattle.std.specs.List.{list_all, list_any, range_with_len}
use Rattle.logic_tasks.specs.declared.task.Task.{Task}
use Rattle.logic_tasks.specs.declared.task.Task.TheVariants.{Not, Nand, And, Orn, Or, Andn, Nor, Xor, Equ}
use Rattle.logic_tasks.specs.Inputs.{known_inputs}

-- every task, in the order of the table
abbrev pub all_tasks : List Task
all_tasks = Not ∷ Nand ∷ And ∷ Orn ∷ Or ∷ Andn ∷ Nor ∷ Xor ∷ Equ ∷ []

-- the place of a task in the table, from 0
abbrev pub task_place : Task → ℕ
task_place Not = 0
task_place Nand = 1
task_place And = 2
task_place Orn = 3
task_place Or = 4
task_place Andn = 5
task_place Nor = 6
task_place Xor = 7
task_place Equ = 8

-- the printed name of a task
abbrev pub task_name : Task → List ℕ
task_name Not = codes "NOT"
task_name Nand = codes "NAND"
task_name And = codes "AND"
task_name Orn = codes "ORN"
task_name Or = codes "OR"
task_name Andn = codes "ANDN"
task_name Nor = codes "NOR"
task_name Xor = codes "XOR"
task_name Equ = codes "EQU"

-- the equation of a task at one bit: what the output has where the inputs have x and y
abbrev pub output_bit : Task → Bool → Bool → Bool
output_bit Not x y = not x
output_bit Nand x y = not (x && y)
output_bit And x y = x && y
output_bit Orn x y = x || not y
output_bit Or x y = x || y
output_bit Andn x y = x && not y
output_bit Nor x y = not (x || y)
output_bit Xor x y = xor x y
output_bit Equ x y = not (xor x y)

-- whether a task needs one input alone
abbrev pub needs_one : Task → Bool
needs_one Not = true
needs_one _ = false

-- whether a bit of a number is set
abbrev pub has_bit : ℕ → ℕ → Bool
has_bit n k = bit_at n k == 1

-- the equation of the task holds at each of the 32 bits
unfoldable pub computes : Task → ℕ → ℕ → ℕ → Bool
computes task output x y =
    list_all (λ k. beq (has_bit output k) (output_bit task (has_bit x k) (has_bit y k)))
    (range_with_len 0 32)

-- the task is done with the inputs at two places, which differ unless it needs one input alone
abbrev pub does_pair : Task → ℕ → List ℕ → ℕ → ℕ → Bool
does_pair task output known first second =
    (not (first == second) || needs_one task)
    && computes task output (slice_index_or known first 0) (slice_index_or known second 0)

-- the task is done with the input at this place and that at some place
abbrev pub does_with : Task → ℕ → List ℕ → ℕ → Bool
does_with task output known first =
    list_any (does_pair task output known first) (range_with_len 0 (length known))

-- the task is done with the inputs at some two places
abbrev pub does : Task → ℕ → List ℕ → Bool
does task output known = list_any (does_with task output known) (range_with_len 0 (length known))

-- the first task of the table that is done by an output after so many inputs were read
unfoldable pub task_done : ℤ → List ℕ → ℕ → Option Task
task_done output inputs read =
    find (λ task. does task (cast_unsigned w32 output) (known_inputs inputs read)) all_tasks

-- the set that a number stands for
unfoldable pub tasks_of : ℕ → List Bool
tasks_of bits = map (has_bit bits) (range_with_len 0 9)

-- the number of a set
abbrev pub bits_of_tasks : List Bool → ℕ
bits_of_tasks [] = 0
bits_of_tasks (task ∷ tasks) = (if task then 1 else 0) + 2 * bits_of_tasks tasks

-- the empty set
abbrev pub no_tasks : List Bool
no_tasks = replicate 9 false

-- whether a set has a task
abbrev pub has_task : List Bool → Task → Bool
has_task tasks task = slice_index_or tasks (task_place task) false

-- a set and one task
abbrev pub with_task : List Bool → Task → List Bool
with_task tasks task = slice_set tasks (task_place task) true
