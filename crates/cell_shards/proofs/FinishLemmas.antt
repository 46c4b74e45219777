-- Jobs that have run, in order of their numbers.
use Rattle.std.proofs.Common.{◌≡◌, ◌∙◌, ℕ, ◌<◌, ◌++◌, [], ◌∷◌, All, List, ap, arith, get_or, inl, inr, length, length-append, slice_get, sym}
use Rattle.cell_shards.proofs.Prelude.{cases_lt, get_or_append_left, get_or_at, All-head, All-tail, same_Some, slice_get-get_or, slice_get_within, RoundNumbers, AreFinished, HasRun, IsFinished, Finished, Job}
use Rattle.cell_shards.specs.declared.done.Done.{Done}

-- these are the first jobs, finished
abbrev pub AreFirst : RoundNumbers → List Job → List Finished → Type 0
AreFirst round jobs first = (place : ℕ) (job : Job) (end : Finished) → place < length first
    → IsFinished round (get_or jobs place job) (get_or first place end)

-- as far as jobs that have run are gathered: some of all are left, and the others are the first
abbrev pub Gathered : List Job → List Done → List Done → List Finished → Type 0
Gathered jobs all left first = (round : RoundNumbers) → All (HasRun round jobs) all
    → All (HasRun round jobs) left × AreFirst round jobs first

-- the next one is gathered
pub Gathered-more : (jobs : List Job) (all left rest : List Done) (one : Done)
    (first next : List Finished) → left ≡ one ∷ rest → one.number ≡ length first
    → next ≡ first ++ one.finished ∷ [] → Gathered jobs all left first
    → Gathered jobs all rest next
Gathered-more jobs all left rest one first next is number more so_far round run =
    let before = so_far round run in
    let runs : All (HasRun round jobs) (one ∷ rest) = rw is at before.0 in
    let here = All-head (HasRun round jobs) one rest runs in (
      All-tail (HasRun round jobs) one rest runs,
      λ place job end within. elim (cases_lt place (length first)) [
        | inl below ↦
            rw (more, get_or_append_left first (one.finished ∷ []) end place below)
            (before.1 place job end below)
        | inr from ↦
            let last : place ≡ length first = omega (
              arith,
              from,
              within,
              ap length more,
              length-append first (one.finished ∷ []),
            ) in
            let there : one.number < length jobs =
            slice_get_within jobs one.number here.0 here.1 in
            let its : here.0 ≡ get_or jobs place job =
            same_Some here.0 (get_or jobs place job)
            (sym here.1 ∙ ap (slice_get jobs) (number ∙ sym last) ∙ slice_get-get_or jobs place job (omega (arith, there, number, last))) in
            rw (more, get_or_at first one.finished [] end place (sym last), ← its) here.2
      ],
    )

-- where the first jobs are as many as there are, all are finished
pub AreFinished-first : (round : RoundNumbers) (jobs : List Job) (all : List Finished)
    → length all ≡ length jobs → AreFirst round jobs all → AreFinished round jobs all
AreFinished-first round jobs all long first = record {
  count = long;
  each = λ place job end within. first place job end (omega (arith, long, within));
}
