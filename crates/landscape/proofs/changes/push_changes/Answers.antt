use Rattle.std.proofs.Common.{◌≢◌, ◌<◌, ◌++◌, List, append-nil, ap, sym, ◌∙◌, arith}
use Rattle.instruction_set.specs.Letter.{index_of}
use Rattle.landscape.specs.declared.changes.Change.{Change}
use Rattle.landscape.proofs.ChangeLemmas.{change_more, no_change_left, others_itself, others_none, same_left}
use Rattle.landscape.proofs.changes.push_changes.Goals.{in-Some+in_ok-push, in_default}
use Rattle.landscape.proofs.changes.push_changes.Goals as goal

pub loop-index-preserved-then-index : goal.loop-index-preserved-then-index
loop-index-preserved-then-index c =
    let index = c.loop-index.index in
    let within : index < 26 = omega arith in
    same_left c.args.at c.args.letter index c.loop-index.changes.items _
    (others_itself c.args.letter index within (c.if-index.true ∙ c.index.ensures.index))
    c.loop-index.invariant

pub loop-index-preserved : goal.loop-index-preserved
loop-index-preserved c =
    let index = c.loop-index.index in
    let letter = c.args.letter in
    let within : index < 26 = omega arith in
    let apart : index ≢ index_of letter = λ e. c.if-index.false (e ∙ sym c.index.ensures.index) in
    elim c.match-from_index.branch [
      | in-Some+in_ok-push w ↦
          rw w.changes-is (change_more c.args.at letter w.in-Some.other index
          c.loop-index.changes.items w.push.new.self.items _ within apart
          w.in-Some.ensures.letter w.in_ok-push.ensures.items c.loop-index.invariant)
      | in_default w ↦
          rw w.changes-is (same_left c.args.at letter index c.loop-index.changes.items _
          (others_none letter index within apart w.in_default.ensures.letter)
          c.loop-index.invariant)
    ]

pub returns : goal.returns
returns c =
    let items = c.loop-index.changes.items in
    sym (append-nil items)
    ∙ sym (ap (λ (cs : List Change). items ++ cs)
    (no_change_left c.args.at c.args.letter c.loop-index.index (omega arith)))
    ∙ c.loop-index.invariant
