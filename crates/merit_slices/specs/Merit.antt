-- The merit of a divide (docs/WORLD.md, "Merit").
use Rattle.std.specs.Prelude.{ℕ, ◌*◌, ◌^◌, min, Bool, List, sum_by, if◌then◌else◌}
use Rattle.logic_tasks.specs.declared.task.Task.{Task}
use Rattle.logic_tasks.specs.declared.task.Task.TheVariants.{Not, Nand, And, Orn, Or, Andn, Nor, Xor, Equ}
use Rattle.logic_tasks.specs.LogicTasks.{all_tasks, has_task}

-- how often a task doubles the merit
abbrev pub exponent_of : Task → ℕ
exponent_of Not = 1
exponent_of Nand = 1
exponent_of And = 2
exponent_of Orn = 2
exponent_of Or = 3
exponent_of Andn = 3
exponent_of Nor = 4
exponent_of Xor = 4
exponent_of Equ = 5

-- how often it does where a set of tasks has it
abbrev pub exponent_in : List Bool → Task → ℕ
exponent_in tasks task = if has_task tasks task then exponent_of task else 0

-- how often a set of tasks does
unfoldable pub exponent_sum : List Bool → ℕ
exponent_sum tasks = sum_by (exponent_in tasks) all_tasks

-- the merit of a genome's length, its executed and its copied places, and the tasks done
unfoldable pub merit_of : ℕ → ℕ → ℕ → List Bool → ℕ
merit_of length executed copied tasks = min (min length executed) copied * 2 ^ exponent_sum tasks
