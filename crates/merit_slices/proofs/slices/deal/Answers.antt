use Rattle.std.proofs.Common.{◌≡◌, ◌∙◌, sym, arith, ◌+◌, ◌-◌, length, take, sum, slice_index_or, refl}
use Rattle.std.proofs.lemmas.List.{take_all, take_more_set}
use Rattle.std.proofs.lemmas.List.FromFn.{map-range_with_len_more}
use Rattle.std.proofs.lemmas.List.Sums.{sum_by_more}
use Rattle.merit_slices.specs.Slices.{share_of, steps_before}
use Rattle.merit_slices.proofs.slices.deal.Goals as goal

pub loop-cell-preserved : goal.loop-cell-preserved
loop-cell-preserved c =
    let merits = c.args.merits.now in
    let cell = c.loop-cell.cell in
    let share = share_of merits c.args.steps in
    let before : c.loop-cell.before + slice_index_or merits cell 0 ≡ sum (take (cell + 1) merits) =
    rw c.loop-cell.invariant.before
    (sym (sum_by_more (λ x. x) merits cell 0 c.loop-cell-test.true)) in
    let due : c.due_by-due.result ≡ steps_before merits c.args.steps (cell + 1) =
    rw (before, c.requires.all) at c.due_by-due.ensures in
    let value : c.due_by-due.result - c.loop-cell.given ≡ share cell =
    rw (due, c.loop-cell.invariant.given) refl in
    record {
      before = before;
      given = due;
      made = take_more_set c.loop-cell.out cell _ (omega arith)
          ∙ rw (c.loop-cell.invariant.made, value) (sym
          (map-range_with_len_more share 0 cell cell (omega arith)));
    }

pub returns : goal.returns
returns c =
    let all : c.loop-cell.cell ≡ length c.args.merits.now = omega arith in
    sym (take_all _ c.loop-cell.out (omega arith)) ∙ rw all at c.loop-cell.invariant.made
