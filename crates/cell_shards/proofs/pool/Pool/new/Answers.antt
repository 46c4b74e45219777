use Rattle.std.proofs.Common.{rules, ◌≡◌, ◌∙◌, ◌++◌, [], List, ap, arith, length, map, replicate, sym}
use Rattle.cell_shards.proofs.Prelude.{into_iter_items, append-nil, length-map, length-replicate, nil_from_length, Job}
use Rattle.cell_shards.proofs.PoolLemmas.{begins, lying}
use Rattle.cell_shards.proofs.pool.Pool.new.Goals.{After-deref}
use Rattle.cell_shards.proofs.pool.Pool.new.Goals as goal

-- a word for each job
words_are : (c : After-deref)
    → c.deref.result.now ≡ replicate (length c.of-known.result.value.items) 0
words_are c =
    c.deref.ensures.value ∙ c.in_ok-words.ensures.items_if_clones_equal (λ y is. is)
    ∙ ap (λ n. replicate n 0) (search rules)

-- all jobs are in slots
all_lie : (c : After-deref)
    → c.loop-job.slots.items ≡ map lying c.of-known.result.value.items
all_lie c =
    let none : into_iter_items c.loop-job.job-iterator ≡ [] =
    nil_from_length (into_iter_items c.loop-job.job-iterator)
    (omega (arith, c.in-None.ensures.steps.0, c.loop-job.job-iterator.rest.ok.0)) in
    sym (append-nil c.loop-job.slots.items)
    ∙ ap (λ (left : List Job). c.loop-job.slots.items ++ map lying left) (sym none)
    ∙ c.loop-job.invariant
    ∙ ap (map lying) (c.into_iter-job-iterator.ensures.into_iter_gives.0)
    ∙ ap (λ (known : List Job). map lying known) (search rules)

pub new-requires : goal.new-requires
new-requires c =
    let at = goal.at.new-requires c in
    begins _ _ _ (words_are at.After-deref) (all_lie at.After-deref)

pub invariant_of-result : goal.invariant_of-result
invariant_of-result c =
    let made = c.in-Ok.ensures.ok in
    let at = (goal.at.invariant_of-result c).After-deref in
    let jobs = c.of-known.result.value.items in (
      made.0 ∙ ap length (words_are at) ∙ length-replicate (length jobs) 0
          ∙ ap (λ k. length k.value.items) (sym made.5),
      made.1 ∙ ap length (all_lie at) ∙ length-map jobs lying
          ∙ ap (λ k. length k.value.items) (sym made.5),
    )
