-- The words of other crates that this one cites most often, passed on from one place.
pub use Rattle.divide_rules.specs.Rules.{AreRules, RuleNumbers, rule_numbers}
pub use Rattle.divide_rules.specs.declared.ask.DivideAsk.{DivideAsk}
pub use Rattle.genome.specs.Genome.{IsGenome, letters}
pub use Rattle.instruction_set.specs.declared.letter.Letter.{Letter}
pub use Rattle.instruction_set.specs.declared.letter.Letter.TheVariants.{HCopy, HDivide, Io}
pub use Rattle.logic_tasks.specs.LogicTasks.{has_task, no_tasks, task_done, with_task}
pub use Rattle.logic_tasks.specs.declared.task.Task.{Task}
pub use Rattle.mutations.specs.BirthRecord.{BirthRecord, after_birth, child_of, origin_of, record_of}
pub use Rattle.mutations.specs.Rates.{LengthRange, RateNumbers, numbers_of}
pub use Rattle.random_streams.specs.RandomStream.{Stream, word_of}
pub use Rattle.std.specs.List.{All, range_with_len}
pub use Rattle.virtual_cpu.specs.Machine.{IsMachine, Machine, fresh_machine, letter_under_ip, with_ip_marked}
pub use Rattle.virtual_cpu.specs.Replication.{child_part, divide_question, parent_part}
pub use Rattle.virtual_cpu.specs.Step.{AsksOf, step}
pub use Rattle.virtual_cpu.specs.View.{HoldsWords, image_of, machine_of_image}
