-- A viable divide of an organism.
use Rattle.std.proofs.Common.{◌≡◌, ℕ, ◌≤◌, length, ap, arith}
use Rattle.organism.proofs.Prelude.{DivideAsk, RuleNumbers, IsViable, Machine, IsMachine, end_of, divide_question, OrganismState, IsDivide}
use Rattle.std.proofs.lemmas.Bool.Decides.{nat_tests}

-- the question of a divide has the place of READ
pub question-read : (m : Machine) (ask : DivideAsk) → ask ≡ divide_question m
    → ask.read ≡ m.heads.read
unfolding divide_question
question-read m ask is = ap (λ (a : DivideAsk). a.read) is

-- the end in a question is the end of the child's part
pub question-end : (m : Machine) (ask : DivideAsk) → ask ≡ divide_question m → ask.end ≡ end_of m
unfolding divide_question
question-end m ask is = ap (λ (a : DivideAsk). a.end) is

-- the child's part ends in memory
pub end-within : (m : Machine) → IsMachine m → end_of m ≤ length m.memory
end-within m h = grind (arith, nat_tests)

-- a divide that breaks no rule is a divide of this organism
pub viable-divide : (o : OrganismState) (ask : DivideAsk) (genome_length : ℕ) (rules : RuleNumbers)
    → IsMachine o.machine → genome_length ≡ length o.genome → 8 ≤ rules.least
    → ask ≡ divide_question o.machine → IsViable ask genome_length rules → IsDivide o ask
viable-divide o ask genome_length rules h long least asked viable = record {
  least_parent = omega (arith, least, viable.parent_not_short);
  least_child = omega (arith, least, viable.child_not_short);
  parent_within = omega (arith, question-read o.machine ask asked, h.read);
  child_within = omega (arith, question-end o.machine ask asked, end-within o.machine h);
  clean_within = omega (arith, question-end o.machine ask asked, end-within o.machine h, h.clean);
  twice_genome = omega (arith, viable.parent_not_long, long);
}
