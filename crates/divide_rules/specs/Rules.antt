-- The rules of a divide as numbers, and how one is printed (docs/MACHINE.md, "The rules of a
-- divide"; docs/FORMATS.md, "Trace lines").
use Rattle.std.specs.Prelude.{ℕ, ◌≤◌, Bool, List, codes}
use Rattle.genome.specs.Lengths.{shortest_genome, longest_genome}
use Rattle.divide_rules.specs.declared.limits.DivideRules.{DivideRules}
use Rattle.divide_rules.specs.declared.rule.Rule.{Rule}
use Rattle.divide_rules.specs.declared.rule.Rule.TheVariants.{V1, V2, V3, V4, V5, V6}

-- least and greatest length of a part, percentages asked for, whether an allocation is needed
pub record RuleNumbers : Type 0 where
  pub least : ℕ
  pub greatest : ℕ
  pub executed_percent : ℕ
  pub copied_percent : ℕ
  pub need_alloc : Bool

-- the numbers of some rules
abbrev pub rule_numbers : DivideRules → RuleNumbers
rule_numbers rules = record {
  least = rules.least;
  greatest = rules.greatest;
  executed_percent = rules.executed_percent;
  copied_percent = rules.copied_percent;
  need_alloc = rules.need_alloc;
}

-- lengths of a genome, and percentages from 1 to 100
pub record AreRules (rules : RuleNumbers) : Type 0 where
  pub long_enough : shortest_genome ≤ rules.least
  pub ordered : rules.least ≤ rules.greatest
  pub short_enough : rules.greatest ≤ longest_genome
  pub executed_is_asked : 1 ≤ rules.executed_percent
  pub executed_is_percent : rules.executed_percent ≤ 100
  pub copied_is_asked : 1 ≤ rules.copied_percent
  pub copied_is_percent : rules.copied_percent ≤ 100

-- the printed name of a rule
abbrev pub rule_name_of : Rule → List ℕ
rule_name_of V1 = codes "V1"
rule_name_of V2 = codes "V2"
rule_name_of V3 = codes "V3"
rule_name_of V4 = codes "V4"
rule_name_of V5 = codes "V5"
rule_name_of V6 = codes "V6"
