use Rattle.std.proofs.Common.{◌≡◌, ◌∙◌, ◌<◌, ◌≤◌, ℕ, List, [], Option, Bor, length, take, sym, subst, arith}
use Rattle.std.specs.Prelude.{option_copied}
use Rattle.log_lines.proofs.Prelude.{take_all, length-set, large, words_of}
use Rattle.log_lines.proofs.WordLemmas.{split_some}
use Rattle.log_lines.proofs.TimesLemmas.{HasRead, front_more, read_more, read_all, read_too_many}
use Rattle.log_lines.proofs.plain_lines.tasks_last.Goals as goal

-- the numbers of a front that is the whole list are those of the list
all_read : (words left : List (List ℕ)) (tasks : List ℕ) (at : ℕ) → length tasks ≤ at
    → HasRead large.read words left (take at tasks) → HasRead large.read words left tasks
all_read words left tasks at far = subst (HasRead large.read words left) (take_all at tasks far)

pub loop-at-preserved : goal.loop-at-preserved
loop-at-preserved c =
    let words = words_of (option_copied c.args.rest) in
    let tasks = c.loop-at.tasks in
    let at = c.loop-at.at in
    let long : length tasks ≡ 9 = c.loop-at.invariant.long in
    let within : at < length tasks = omega (arith, c.loop-at-test.true, long) in
    let more = read_more large.read words (words_of (option_copied c.loop-at.left))
    (words_of (option_copied c.in_ok-count.others)) (take at tasks) c.in_ok-count.count
    c.loop-at.invariant.read c.in_ok-count.ensures in
    record {
      read = subst (HasRead large.read words (words_of (option_copied c.in_ok-count.others)))
          (sym (front_more tasks at c.in_ok-count.count within)) more;
      long = length-set tasks at c.in_ok-count.count ∙ long;
    }

pub returns-in-None : goal.returns-in-None
returns-in-None c =
    let words = words_of (option_copied c.args.rest) in
    let at = c.loop-at.at in
    let tasks = c.loop-at.tasks in
    let long = c.loop-at.invariant.long in
    read_all large.read 9 words tasks
    (all_read words [] tasks at (omega (arith, long, c.loop-at-test.false))
    (subst (λ (o : Option (Bor (List ℕ))). HasRead large.read words (words_of (option_copied o))
    (take at tasks)) c.in-None.is c.loop-at.invariant.read)) long

pub returns-in-Some : goal.returns-in-Some
returns-in-Some c =
    let words = words_of (option_copied c.args.rest) in
    let long = c.loop-at.invariant.long in
    let behind = words_of (option_copied c.loop-at.left) in
    read_too_many large.read 9 words behind c.loop-at.tasks
    (all_read words behind c.loop-at.tasks c.loop-at.at
    (omega (arith, long, c.loop-at-test.false)) c.loop-at.invariant.read) long
    (rw c.in-Some.is (split_some 32 c.in-Some.field-0.now))
