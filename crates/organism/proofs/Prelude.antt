-- What the proofs of this crate cite from outside most often, passed on from one place.
pub use Rattle.divide_rules.specs.Viability.{IsViable, child_length, verdict_of}
pub use Rattle.mutations.specs.ChildTexts.{AreTextsOfChild, IsLengthWithin, OfDrawnRecords}
pub use Rattle.organism.specs.Life.{IsDivide, OnViable, after_did, divide_outcome, newly_done, next_input, older, with_done}
unfoldable pub use Rattle.organism.specs.Life.{after_letter, after_output, life_step, renewed}
pub use Rattle.organism.specs.Lived.{HasLived, IsBornOf, IsSoundOrganism, beginning}
pub use Rattle.organism.specs.OrganismState.{OrganismState, organism_view}
unfoldable pub use Rattle.organism.specs.OrganismState.{new_organism}
pub use Rattle.organism.specs.Prelude.{All, AreRules, AsksOf, BirthRecord, DivideAsk, HoldsWords, IsGenome, IsMachine, Letter, Machine, RuleNumbers, Stream, after_birth, child_of, child_part, fresh_machine, image_of, letter_under_ip, letters, machine_of_image, origin_of, parent_part, range_with_len, rule_numbers, with_ip_marked, word_of}
pub use Rattle.organism.specs.SettingNumbers.{GoesOn, LifeNow, SettingNumbers, life_now, setting_numbers}
pub use Rattle.organism.specs.UpdateLife.{LifeState, after_copy_of, after_effect, after_outcome, age_of_death, child_range, clean_text, copy_of, dies_at, ended, is_old, life_state, newborn_of, written_text}
unfoldable pub use Rattle.organism.specs.UpdateLife.{after_child, after_step, birth_record, child_letters, death_in, life, life_state_after}
pub use Rattle.organism.specs.declared.outcome.Outcome.{Outcome}
pub use Rattle.organism.specs.declared.outcome.Outcome.TheVariants.{Nothing}
pub use Rattle.organism.specs.declared.ran.Ran.TheVariants.{Died}
pub use Rattle.std.specs.List.{find}
pub use Rattle.virtual_cpu.specs.Replication.{end_of}
unfoldable pub use Rattle.virtual_cpu.specs.Replication.{divide_question}
pub use Rattle.virtual_cpu.specs.Step.{KeepsLimits, TellsNothing}
unfoldable pub use Rattle.virtual_cpu.specs.Step.{step}
pub use Rattle.virtual_cpu.specs.declared.step_answer.StepAnswer.{StepAnswer}
pub use Rattle.virtual_cpu.specs.declared.step_answer.StepAnswer.TheVariants.{Allocated, Asks, Copied, Output, Plain}
