-- A step and a viable divide leave an organism sound.
use Rattle.std.proofs.Common.{◌≡◌, refl, ◌∙◌, ℕ, ℤ, ◌+◌, ◌-◌, ◌*◌, ◌<◌, ◌≤◌, ◌^◌, Bool, Option, Some, None, List, length, IsOkAnd, arith}
use Rattle.std.specs.Prelude.{FitsSigned, slice_index_or, ◌%◌}
use Rattle.organism.proofs.Prelude.{Letter, IsGenome, DivideAsk, RuleNumbers, AreRules, verdict_of, child_length, IsViable, child_of, IsLengthWithin, OfDrawnRecords, StepAnswer, Output, Asks, Machine, IsMachine, fresh_machine, end_of, parent_part, divide_question, HoldsWords, step, AsksOf, KeepsLimits, Outcome, OrganismState, new_organism, next_input, older, newly_done, with_done, after_output, divide_outcome, after_did, life_step, renewed, OnViable, IsSoundOrganism}
use Rattle.std.specs.Int.{w32, cast_signed}
use borrow.Author.Differences.{fits_in, read_fits}
use Rattle.std.proofs.Math.Nat.{mul-le-mul}
use Rattle.std.proofs.lemmas.List.{length-take-le}
use Rattle.logic_tasks.specs.declared.task.Task.{Task}
use Rattle.merit_slices.specs.Merit.{merit_of}
use Rattle.divide_rules.specs.declared.verdict.Verdict.{Verdict}
use Rattle.divide_rules.specs.declared.verdict.Verdict.TheVariants as verdict
use Rattle.mutations.specs.RecordForm.{HasRecordForm}
use Rattle.organism.specs.declared.outcome.Outcome.TheVariants as outcome
use Rattle.organism.proofs.DivideLemmas.{question-read, question-end, end-within}

-- the laws of what an organism stands on
pub record LowerLaws : Type 0 where
  pub steps : (m : Machine) (input : ℤ) (copy : Option Letter) → IsMachine m
      → IsMachine (step m input copy).0
  pub asks : (m : Machine) (input : ℤ) (copy : Option Letter)
      → AsksOf (step m input copy).0 (step m input copy).1
  pub keeps : (m : Machine) (input : ℤ) (copy : Option Letter) → KeepsLimits m (step m input copy).0
  pub starts : (text : List Letter) (birth_length limit : ℕ) → 8 ≤ length text → length text ≤ limit
      → length text ≤ 2 * birth_length → birth_length ≤ limit → limit ≤ 8192
      → IsMachine (fresh_machine text birth_length limit)
  pub holds : (m : Machine) (input : ℤ) (copy : Option Letter) → IsMachine m → HoldsWords m
      → FitsSigned w32 input → HoldsWords (step m input copy).0
  pub begins : (text : List Letter) (birth_length limit : ℕ)
      → HoldsWords (fresh_machine text birth_length limit)
  pub viable : (ask : DivideAsk) (genome_length : ℕ) (rules : RuleNumbers)
      → verdict_of ask genome_length rules ≡ verdict.Viable → IsViable ask genome_length rules
  pub bounded : (genome_length executed copied : ℕ) (tasks : List Bool) → genome_length ≤ 8192
      → merit_of genome_length executed copied tasks ≤ 2 ^ 38
  pub positive : (genome_length executed copied : ℕ) (tasks : List Bool) → 1 ≤ genome_length
      → 1 ≤ executed → 1 ≤ copied → 1 ≤ merit_of genome_length executed copied tasks
  pub applies : OfDrawnRecords (λ limits parent drawn.
      IsOkAnd (child_of parent drawn) (IsLengthWithin limits))
  pub form : OfDrawnRecords (λ limits parent drawn. HasRecordForm drawn)

-- a viable divide of this organism
pub record IsAsked (rules : RuleNumbers) (o : OrganismState) (ask : DivideAsk) : Type 0 where
  pub lawful : AreRules rules
  pub question : ask ≡ divide_question o.machine
  pub viable : IsViable ask (length o.genome) rules

-- what one step has made of an organism with these values, before the renewal
pub record ToldWith (rules : RuleNumbers) (old_genome : List Letter) (old_inputs : List ℕ)
    (old_age : ℕ) (told : OrganismState × Outcome) : Type 0 where
  pub sound : IsSoundOrganism told.0
  pub genome : told.0.genome ≡ old_genome
  pub inputs : told.0.inputs ≡ old_inputs
  pub age : told.0.age ≡ old_age
  pub asked : OnViable told.1 (IsAsked rules told.0)

-- what one step has made of this organism
abbrev pub Told : RuleNumbers → OrganismState → OrganismState × Outcome → Type 0
Told rules o told = ToldWith rules o.genome o.inputs o.age told

-- nothing that is viable was told
plain : (rules : RuleNumbers) (o : OrganismState) → IsSoundOrganism o
    → Told rules o (o, outcome.Nothing)
plain rules o h = record { sound = h; genome = refl; inputs = refl; age = refl; asked = tt }

-- a task newly done, or none, leaves the organism sound, and tells no viable divide
done : (rules : RuleNumbers) (o : OrganismState) (task : Option Task) → IsSoundOrganism o
    → Told rules o (with_done o task)
done rules o None h = plain rules o h
done rules o (Some task) h = record {
  sound = record {
    organism = record { birth_length = h.organism.birth_length; read = h.organism.read };
    machine = h.machine;
    words = h.words;
    genome = h.genome;
    some_merit = h.some_merit;
    merit = h.merit;
  };
  genome = refl;
  inputs = refl;
  age = refl;
  asked = tt;
}

-- an output counts as a read
put_out : (rules : RuleNumbers) (o : OrganismState) (output : ℤ) → o.read < o.age
    → IsSoundOrganism o → Told rules o (after_output o output)
unfolding after_output
put_out rules o output before h =
    let next : OrganismState = record o { read = o.read + 1 } in
    let sound : IsSoundOrganism next = record {
      organism = record { birth_length = h.organism.birth_length; read = omega arith };
      machine = h.machine;
      words = h.words;
      genome = h.genome;
      some_merit = h.some_merit;
      merit = h.merit;
    } in
    done rules next (newly_done o output) sound

-- a question that the rules find viable
judged : (P : DivideAsk → Type 0) (v : Verdict) (ask : DivideAsk) → (v ≡ verdict.Viable → P ask)
    → OnViable (divide_outcome v ask) P
judged P verdict.Viable ask holds = holds refl
judged P (verdict.Broken rule found bound) ask holds = tt

-- whatever the machine tells, the organism stays sound, and a viable divide is one of it
followed : LowerLaws → (rules : RuleNumbers) → AreRules rules
    → (o : OrganismState) (did : StepAnswer)
    → o.read < o.age → AsksOf o.machine did → IsSoundOrganism o
    → Told rules o (after_did o rules did)
followed laws rules are o (Output value) before asks h = put_out rules o value before h
followed laws rules are o (Asks ask) before asks h = record {
  sound = h;
  genome = refl;
  inputs = refl;
  age = refl;
  asked = judged (IsAsked rules o) (verdict_of ask (length o.genome) rules) ask
      (λ is_viable. record {
        lawful = are;
        question = asks;
        viable = laws.viable ask (length o.genome) rules is_viable;
      });
}
followed laws rules are o _ before asks h = plain rules o h

-- an input has 32 bits
cast : (n : ℕ) → FitsSigned w32 (cast_signed w32 n)
cast n = omega (arith, fits_in, read_fits w32 n)

-- one step, before the renewal
pub stepped : LowerLaws → (rules : RuleNumbers) → AreRules rules
    → (o : OrganismState) (copy : Option Letter) → IsSoundOrganism o
    → Told rules (record o { age = o.age + 1 }) (life_step o copy rules)
unfolding life_step
stepped laws rules are o copy h =
    let machine : Machine = (step o.machine (next_input o) copy).0 in
    let kept : KeepsLimits o.machine machine = laws.keeps o.machine (next_input o) copy in
    let sound : IsSoundOrganism (older o machine) = record {
      organism = record {
        birth_length = kept.birth_length ∙ h.organism.birth_length;
        read = omega (arith, h.organism.read);
      };
      machine = laws.steps o.machine (next_input o) copy h.machine;
      words = laws.holds o.machine (next_input o) copy h.machine h.words
          (cast (slice_index_or o.inputs (o.read % 3) 0));
      genome = h.genome;
      some_merit = h.some_merit;
      merit = h.merit;
    } in
    followed laws rules are (older o machine) (step o.machine (next_input o) copy).1
    (omega (arith, h.organism.read)) (laws.asks o.machine (next_input o) copy) sound

-- the numbers of a viable divide
pub record AsksWithin (rules : RuleNumbers) (o : OrganismState) (ask : DivideAsk) : Type 0 where
  pub read_least : 8 ≤ ask.read
  pub read_most : ask.read ≤ 2 * length o.genome
  pub read_within : ask.read ≤ length o.machine.memory
  pub end_within : ask.end ≤ length o.machine.memory
  pub child_least : rules.least ≤ ask.end - ask.read
  pub child_most : ask.end - ask.read ≤ rules.greatest

-- a viable divide of a sound organism lies in memory, with lengths that are allowed
pub within : (rules : RuleNumbers) (o : OrganismState) (ask : DivideAsk) → IsSoundOrganism o
    → IsAsked rules o ask → AsksWithin rules o ask
within rules o ask h asked =
    let end : end_of o.machine ≤ length o.machine.memory = end-within o.machine h.machine in
    record {
      read_least = omega (arith, asked.lawful.long_enough, asked.viable.parent_not_short);
      read_most = omega (arith, asked.viable.parent_not_long);
      read_within = omega (arith, question-read o.machine ask asked.question, h.machine.read);
      end_within = omega (arith, question-end o.machine ask asked.question, end);
      child_least = omega (arith, asked.viable.child_not_short);
      child_most = omega (arith, asked.viable.child_not_long);
    }

-- a share of a hundredth that is asked leaves something
some-share : (percent places found : ℕ) → 1 ≤ percent → 1 ≤ places → percent * places ≤ 100 * found
    → 1 ≤ found
some-share percent places found asked some share =
    let product : 1 * 1 ≤ percent * places = mul-le-mul asked some in omega (arith, product, share)

-- a viable divide leaves a merit
pub divide_merit : LowerLaws → (rules : RuleNumbers) (o : OrganismState) (ask : DivideAsk)
    → IsSoundOrganism o → IsAsked rules o ask
    → 1 ≤ merit_of (length o.genome) ask.executed ask.copied o.gestation
divide_merit laws rules o ask h asked =
    let w : AsksWithin rules o ask = within rules o ask h asked in
    let executed : 1 ≤ ask.executed =
    some-share rules.executed_percent ask.read ask.executed asked.lawful.executed_is_asked
    (omega (arith, w.read_least)) asked.viable.executed in
    let copied : 1 ≤ ask.copied =
    some-share rules.copied_percent (child_length ask) ask.copied asked.lawful.copied_is_asked
    (omega (arith, asked.lawful.long_enough, w.child_least)) asked.viable.copied in
    laws.positive (length o.genome) ask.executed ask.copied o.gestation
    (omega (arith, h.genome.least)) executed copied

-- the parent after a divide
pub born_anew : LowerLaws → (rules : RuleNumbers) (o : OrganismState) (ask : DivideAsk)
    → IsSoundOrganism o → IsAsked rules o ask → IsSoundOrganism (renewed o ask)
unfolding renewed
born_anew laws rules o ask h asked =
    let w : AsksWithin rules o ask = within rules o ask h asked in
    let size : length (parent_part o.machine.memory ask.read) ≡ ask.read =
    length-take-le ask.read o.machine.memory w.read_within in
    record {
      organism = record { birth_length = h.organism.birth_length; read = omega arith };
      machine = laws.starts (parent_part o.machine.memory ask.read) o.machine.birth_length
          o.machine.limit
          (omega (arith, size, w.read_least))
          (omega (arith, size, w.read_within, h.machine.greatest))
          (omega (arith, size, w.read_most, h.organism.birth_length)) h.machine.birth_length
          h.machine.limit;
      words = laws.begins (parent_part o.machine.memory ask.read) o.machine.birth_length
          o.machine.limit;
      genome = h.genome;
      some_merit = divide_merit laws rules o ask h asked;
      merit = laws.bounded (length o.genome) ask.executed ask.copied o.gestation h.genome.greatest;
    }

-- the laws of a machine that a text has just made
pub record FreshLaws : Type 0 where
  pub starts : (text : List Letter) (birth_length limit : ℕ) → 8 ≤ length text → length text ≤ limit
      → length text ≤ 2 * birth_length → birth_length ≤ limit → limit ≤ 8192
      → IsMachine (fresh_machine text birth_length limit)
  pub begins : (text : List Letter) (birth_length limit : ℕ)
      → HoldsWords (fresh_machine text birth_length limit)

-- the law of a new organism
pub founded : FreshLaws
    → (letters : List Letter) (inputs : List ℕ) (merit : ℕ) (credited : List Bool) (limit : ℕ)
    → IsGenome letters → length letters ≤ limit → limit ≤ 8192 → 1 ≤ merit → merit ≤ 2 ^ 38
    → IsSoundOrganism (new_organism letters inputs merit credited limit)
unfolding new_organism
founded laws letters inputs merit credited limit genome short few some fair = record {
  organism = record { birth_length = refl; read = omega arith };
  machine = laws.starts letters (length letters) limit genome.least short (omega arith) short few;
  words = laws.begins letters (length letters) limit;
  genome = genome;
  some_merit = some;
  merit = fair;
}
