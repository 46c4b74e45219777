-- The rules of a divide and their verdict (docs/MACHINE.md, "The rules of a divide").
use Rattle.std.specs.Prelude.{IsTrue, ℕ, ◌+◌, ◌-◌, ◌*◌, ◌/◌, ◌<◌, ◌≤◌, Bool, ◌||◌, ◌&&◌, not, nat_lt, nat_le, min, max, [], ◌∷◌, Option, find, if◌then◌else◌}
use Rattle.std.specs.Option.{option_map_or}
use Rattle.divide_rules.specs.declared.ask.DivideAsk.{DivideAsk}
use Rattle.divide_rules.specs.Rules.{RuleNumbers}
use Rattle.divide_rules.specs.declared.rule.Rule.{Rule}
use Rattle.divide_rules.specs.declared.rule.Rule.TheVariants.{V1, V2, V3, V4, V5, V6}
use Rattle.divide_rules.specs.declared.verdict.Verdict.{Verdict}
use Rattle.divide_rules.specs.declared.verdict.Verdict.TheVariants.{Viable, Broken}

-- half the parent's genome, rounded up, but no less than the world allows
abbrev pub least_part : ℕ → RuleNumbers → ℕ
least_part genome_length rules = max rules.least ((genome_length + 1) / 2)

-- twice the parent's genome, but no more than the world allows
abbrev pub greatest_part : ℕ → RuleNumbers → ℕ
greatest_part genome_length rules = min rules.greatest (2 * genome_length)

-- the length of the child's part
abbrev pub child_length : DivideAsk → ℕ
child_length ask = ask.end - ask.read

-- a hundred times the places of the parent's part that have to be executed
abbrev pub executed_share : DivideAsk → RuleNumbers → ℕ
executed_share ask rules = rules.executed_percent * ask.read

-- a hundred times the places of the child's part that have to be copied
abbrev pub copied_share : DivideAsk → RuleNumbers → ℕ
copied_share ask rules = rules.copied_percent * child_length ask

-- whether a rule holds
abbrev pub rule_holds : Rule → DivideAsk → ℕ → RuleNumbers → Bool
rule_holds V1 ask genome_length rules = ask.allocated || not rules.need_alloc
rule_holds V2 ask genome_length rules =
    nat_le (least_part genome_length rules) ask.read
    && nat_le ask.read (greatest_part genome_length rules)
rule_holds V3 ask genome_length rules = nat_lt ask.read ask.end
rule_holds V4 ask genome_length rules =
    nat_le (least_part genome_length rules) (child_length ask)
    && nat_le (child_length ask) (greatest_part genome_length rules)
rule_holds V5 ask genome_length rules = nat_le (executed_share ask rules) (100 * ask.executed)
rule_holds V6 ask genome_length rules = nat_le (copied_share ask rules) (100 * ask.copied)

-- what a broken rule found
abbrev pub found_of : Rule → DivideAsk → ℕ
found_of V1 ask = 0
found_of V2 ask = ask.read
found_of V3 ask = ask.end
found_of V4 ask = child_length ask
found_of V5 ask = ask.executed
found_of V6 ask = ask.copied

-- the end of the allowed lengths that a length has passed
abbrev pub bound_passed : ℕ → ℕ → RuleNumbers → ℕ
bound_passed part genome_length rules =
    if nat_lt part (least_part genome_length rules) then least_part genome_length rules
    else greatest_part genome_length rules

-- the bound that a broken rule names; a hundredth of a share is rounded up
abbrev pub bound_of : Rule → DivideAsk → ℕ → RuleNumbers → ℕ
bound_of V1 ask genome_length rules = 1
bound_of V2 ask genome_length rules = bound_passed ask.read genome_length rules
bound_of V3 ask genome_length rules = ask.read + 1
bound_of V4 ask genome_length rules = bound_passed (child_length ask) genome_length rules
bound_of V5 ask genome_length rules = (executed_share ask rules + 99) / 100
bound_of V6 ask genome_length rules = (copied_share ask rules + 99) / 100

-- the first rule, in this order, that does not hold
abbrev pub first_broken : DivideAsk → ℕ → RuleNumbers → Option Rule
first_broken ask genome_length rules =
    find (λ rule. not (rule_holds rule ask genome_length rules)) (V1 ∷ V2 ∷ V3 ∷ V4 ∷ V5 ∷ V6 ∷ [])

-- the verdict on a divide of a parent of this length: the first broken rule, with its two numbers
unfoldable pub verdict_of : DivideAsk → ℕ → RuleNumbers → Verdict
verdict_of ask genome_length rules =
    option_map_or (λ rule. Broken rule (found_of rule ask) (bound_of rule ask genome_length rules))
    (first_broken ask genome_length rules) Viable

-- all six rules hold, as facts with names; `divide_rules::judge · viable` says that verdicts agree
pub record IsViable (ask : DivideAsk) (genome_length : ℕ) (rules : RuleNumbers) : Type 0 where
  pub allocated : IsTrue (ask.allocated || not rules.need_alloc)
  pub parent_not_short : least_part genome_length rules ≤ ask.read
  pub parent_not_long : ask.read ≤ greatest_part genome_length rules
  pub child_begins : ask.read < ask.end
  pub child_not_short : least_part genome_length rules ≤ child_length ask
  pub child_not_long : child_length ask ≤ greatest_part genome_length rules
  pub executed : executed_share ask rules ≤ 100 * ask.executed
  pub copied : copied_share ask rules ≤ 100 * ask.copied
