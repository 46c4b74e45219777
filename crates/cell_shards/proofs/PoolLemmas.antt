-- Each step on the table of a pool keeps its rule.
use Rattle.std.proofs.Common.{◌≡◌, ◌≢◌, ◌∙◌, ℕ, zero, suc, ◌<◌, List, [], ◌∷◌, Option, Some, None, ap, arith, get_or, length, map, refl, replicate, set, slice_get, sym, ⊎_elim}
use Rattle.cell_shards.proofs.Prelude.{get_or-set_other, get_or-set_same, length-set, length-replicate, none-some, same_Some, slice_get_within, Act, Allows, Me, Splits, State, Valid, carried_after, keeps, opening, step, stepped, takes, HasAsked, IsPool, Job}
use mathlib.Core.Option.{none, some, some-injective, some-ne-none}
use mathlib.Core.Logic.{dite}
use native.Mathlib.Decide.{ℕ_discrete}
use lib.ListN.{get_elem?}
use Rattle.atomic_table.proofs.Lists.{at_snoc, set_again, set_else}

-- a job, in the slot that it lies in at first
abbrev pub lying : Job → Option Job
lying job = Some job

-- each job lies in the slot of its number
lies : (jobs : List Job) (number : ℕ) (job : Job) → slice_get jobs number ≡ Some job
    → get_elem? (map some (map lying jobs)) number ≡ some (some (Some job))
lies [] number job is = absurd (none-some job is)
lies (x ∷ jobs) zero job is = ap (λ (j : Job). some (some (Some j))) (same_Some x job is)
lies (x ∷ jobs) (suc number) job is = lies jobs number job is

-- a pool begins with all jobs in their slots, and one seat that knows them
pub begins : (jobs : List Job) (words : List ℕ) (slots : List (Option Job))
    → words ≡ replicate (length jobs) 0 → slots ≡ map lying jobs
    → IsPool jobs (opening words slots jobs)
begins jobs words slots zeros all = record {
  words = ap length zeros ∙ length-replicate (length jobs) 0;
  seats = one;
  free = λ number job free is. rw all (lies jobs number job is);
}
  where
    one : (seat : ℕ) (known : List Job) → get_elem? (jobs ∷ []) seat ≡ some known → known ≡ jobs
    one zero known is = sym (some-injective jobs known is)
    one (suc seat) known is = absurd (some-ne-none known (sym is))

-- a seat that knows what another knows keeps the rule
pub splits : (jobs : List Job) (id : ℕ) (known : List Job)
    → Splits (IsPool jobs) id known known known
splits jobs id known s is there =
    record {
      words = is.words;
      seats = λ seat other seen. ⊎_elim (λ before. is.seats seat other before)
          (λ new. sym new ∙ is.seats id known there)
          (at_snoc s.views known other seat (rw (set_again s.views id known there) at seen));
      free = is.free;
    }

-- the rule holds on once a number's word is 1, if no other slot has changed
asked : (jobs : List Job) (s : State (Option Job) (List Job)) (id number : ℕ) (known : List Job)
    (homes : List (mathlib.Core.Option.Option (Option Job))) → IsPool jobs s
    → get_elem? s.views id ≡ some known
    → ((k : ℕ) → k ≢ number → get_elem? homes k ≡ get_elem? s.homes k)
    → IsPool jobs (record {
      words = set s.words number 1;
      homes = homes;
      views = set s.views id known;
    })
asked jobs s id number known homes is there others = record {
  words = length-set s.words number 1 ∙ is.words;
  seats = λ seat other seen.
      is.seats seat other (rw (set_again s.views id known there) at seen);
  free = λ k job free at. dite (ℕ_discrete k number)
      (λ same. let below : k < length jobs = slice_get_within jobs k job at in
      let one = get_or-set_same s.words number 1 0 (omega (arith, is.words, same)) in
      absurd (omega (arith, one, rw same at free)))
      (λ apart. others k apart
      ∙ is.free k job (sym (get_or-set_other s.words number k 1 0 apart) ∙ free) at);
}

-- what a seat that asks for a job comes to, whatever the table is
abbrev Answer : List Job → ℕ → ℕ → ℕ → Me (Option Job) (List Job)
    → State (Option Job) (List Job) → Type 0
Answer jobs slots id number me s =
    (known : List Job) × (act : Act (Option Job)) × Valid s.homes me.1 act
    × IsPool jobs (stepped s number 1 id me.1 known act)
    × HasAsked (step slots number 1 0 none) me (get_or s.words number 0)
    (known, carried_after me.1 act)

-- where there is no such job, or it was taken, nothing comes out
asks_in_vain : (jobs : List Job) (slots id number : ℕ) (me : Me (Option Job) (List Job))
    (s : State (Option Job) (List Job)) → IsPool jobs s → get_elem? s.views id ≡ some me.0
    → ((job : Job) → slice_get jobs number ≡ Some job → get_or s.words number 0 ≡ 0 → ⊥)
    → Answer jobs slots id number me s
asks_in_vain jobs slots id number me s is there vain =
    let none_out : (job : Job) → slice_get me.0 number ≡ Some job → get_or s.words number 0 ≡ 0
    → me.1 ≡ (number, Some job) ∷ me.1 =
    λ job found free. absurd (vain job (rw (is.seats id me.0 there) at found) free) in (
      me.0,
      keeps,
      tt,
      asked jobs s id number me.0 s.homes is there (λ k apart. refl),
      (refl, none_out),
    )

-- where it lies in its slot, it comes out
asks_for : (jobs : List Job) (slots id number : ℕ) (me : Me (Option Job) (List Job))
    (s : State (Option Job) (List Job)) → IsPool jobs s → get_elem? s.views id ≡ some me.0
    → (job : Job) → slice_get jobs number ≡ Some job → get_or s.words number 0 ≡ 0
    → Answer jobs slots id number me s
asks_for jobs slots id number me s is there job at free = (
  me.0,
  takes number (Some job),
  is.free number job free at,
  asked jobs s id number me.0 (set s.homes number none) is there
      (λ k apart. set_else s.homes number k none apart),
  (
    refl,
    λ other known free'. ap (λ (j : Job). (number, Some j) ∷ me.1)
        (same_Some job other (sym at ∙ rw (is.seats id me.0 there) at known)),
  ),
)

-- a seat that asks for a job keeps the rule, and has the job where its word was 0
pub asks : (jobs : List Job) (slots id number : ℕ) (me : Me (Option Job) (List Job))
    → Allows (IsPool jobs) slots id me number (λ _. 1) (HasAsked (step slots number 1 0 none) me)
asks jobs slots id number me s is long there small = by_job (slice_get jobs number) refl
  where
    by_job : (found : Option Job) → slice_get jobs number ≡ found
        → Answer jobs slots id number me s
    by_job None at = asks_in_vain jobs slots id number me s is there
        (λ job known free. none-some job (sym at ∙ known))
    by_job (Some job) at = dite (ℕ_discrete (get_or s.words number 0) 0)
        (λ free. asks_for jobs slots id number me s is there job at free)
        (λ taken. asks_in_vain jobs slots id number me s is there
        (λ other known free. taken free))

-- there is a job at each number below their count
job_at : (jobs : List Job) (number : ℕ) → number < length jobs
    → (job : Job) × (slice_get jobs number ≡ Some job)
job_at [] number within = absurd (omega arith)
job_at (x ∷ jobs) zero within = (x, refl)
job_at (x ∷ jobs) (suc number) within = job_at jobs number (omega arith)

-- the job that was asked for is out with the seat, which knows the jobs
pub taken_out : (jobs known : List Job) (number found : ℕ) (before after : List (ℕ × Option Job))
    → known ≡ jobs → number < length jobs → found ≡ 0
    → ((job : Job) → slice_get known number ≡ Some job → found ≡ 0
    → after ≡ (number, Some job) ∷ before)
    → (job : Job) × (slice_get jobs number ≡ Some job) × (after ≡ (number, Some job) ∷ before)
taken_out jobs known number found before after same within free told =
    let job = job_at jobs number within in
    (job.0, job.1, told job.0 (rw same job.1) free)
