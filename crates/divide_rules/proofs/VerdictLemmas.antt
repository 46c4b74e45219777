-- What the verdict Viable means.
use Rattle.std.proofs.Common.{◌≡◌, refl, ℕ, ◌*◌, ◌≤◌, ◌<◌, Bool, true, false, not, cond, ◌&&◌, leb, ltb, Option, None, Some, arith}
use Rattle.std.specs.Option.{option_map_or}
use Rattle.std.proofs.lemmas.Bool.Decides.{nat_tests}
use Rattle.divide_rules.specs.declared.ask.DivideAsk.{DivideAsk}
use Rattle.divide_rules.specs.Rules.{RuleNumbers}
use Rattle.divide_rules.specs.declared.rule.Rule.{Rule}
use Rattle.divide_rules.specs.declared.rule.Rule.TheVariants.{V1, V2, V3, V4, V5, V6}
use Rattle.divide_rules.specs.declared.verdict.Verdict.TheVariants.{Viable, Broken}
use Rattle.divide_rules.specs.Viability.{least_part, greatest_part, child_length, executed_share, copied_share, rule_holds, found_of, bound_of, first_broken, verdict_of, IsViable}

-- a verdict that names no rule
unbroken : (broken : Option Rule) (found bound : Rule → ℕ)
    → option_map_or (λ rule. Broken rule (found rule) (bound rule)) broken Viable ≡ Viable
    → broken ≡ None
unbroken None found bound viable = refl
unbroken (Some rule) found bound viable = absurd cc

-- a rule that is not the first broken one, before others that are not
kept : (keeps : Bool) (rule : Rule) (others : Option Rule)
    → cond (not keeps) (Some rule) others ≡ None → (keeps ≡ true) × (others ≡ None)
kept true rule others none = (refl, none)
kept false rule others none = absurd cc

-- a number between two bounds by two tests is between them
between : (least number greatest : ℕ) → (leb least number && leb number greatest) ≡ true
    → (least ≤ number) × (number ≤ greatest)
between least number greatest both = grind (arith, nat_tests)

-- a number that passes the test for less is below the other
below : (number most : ℕ) → ltb number most ≡ true → number < most
below number most less = grind (arith, nat_tests)

-- a number that passes the test for at most is at most the other
within : (number most : ℕ) → leb number most ≡ true → number ≤ most
within number most le = grind (arith, nat_tests)

-- all six rules hold
pub viable : (ask : DivideAsk) (genome_length : ℕ) (rules : RuleNumbers)
    → verdict_of ask genome_length rules ≡ Viable → IsViable ask genome_length rules
unfolding verdict_of
viable ask genome_length rules is_viable =
    let none : first_broken ask genome_length rules ≡ None =
    unbroken (first_broken ask genome_length rules) (λ rule. found_of rule ask)
    (λ rule. bound_of rule ask genome_length rules) is_viable in
    let v1 = kept (rule_holds V1 ask genome_length rules) V1 _ none in
    let v2 = kept (rule_holds V2 ask genome_length rules) V2 _ v1.1 in
    let v3 = kept (rule_holds V3 ask genome_length rules) V3 _ v2.1 in
    let v4 = kept (rule_holds V4 ask genome_length rules) V4 _ v3.1 in
    let v5 = kept (rule_holds V5 ask genome_length rules) V5 _ v4.1 in
    let v6 = kept (rule_holds V6 ask genome_length rules) V6 _ v5.1 in
    let parent = between (least_part genome_length rules) ask.read
    (greatest_part genome_length rules) v2.0 in
    let child = between (least_part genome_length rules) (child_length ask)
    (greatest_part genome_length rules) v4.0 in
    record {
      allocated = v1.0;
      parent_not_short = parent.0;
      parent_not_long = parent.1;
      child_begins = below ask.read ask.end v3.0;
      child_not_short = child.0;
      child_not_long = child.1;
      executed = within (executed_share ask rules) (100 * ask.executed) v5.0;
      copied = within (copied_share ask rules) (100 * ask.copied) v6.0;
    }
