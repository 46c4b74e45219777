use Rattle.std.proofs.Common.{◌≡◌, ◌∙◌, ap, sym, ◌+◌, ◌-◌, ◌<◌, ◌≤◌, length, get_or, take, arith}
use Rattle.world_core.proofs.Prelude.{take_all, length-range_with_len, get_or-range_with_len, fold_more, line_text, cleared_line, cells_from, with_death, with_deaths, scene_in}
use Rattle.world_core.proofs.ScanLemmas.{told-step}
use Rattle.world_core.proofs.events.clear.Goals as goal

pub loop-cell-preserved : goal.loop-cell-preserved
loop-cell-preserved c =
    let cells = cells_from c.args.first c.args.last in
    let i = c.loop-cell.cell - c.args.first in
    let first = scene_in c.args.scene.now in
    let before = c.loop-cell.invariant in
    let turn = c.in_ok-kill.ensures in
    let low : c.args.first ≤ c.loop-cell.cell = omega arith in
    let width : c.loop-cell.cell < c.args.last + 1 = c.loop-cell-test.true in
    let within : i < length cells =
    omega (arith, length-range_with_len c.args.first (c.args.last + 1 - c.args.first)) in
    let next : i + 1 ≡ c.loop-cell.cell + 1 - c.args.first = omega arith in
    let here : get_or cells i 0 ≡ c.loop-cell.cell =
    get_or-range_with_len c.args.first (c.args.last + 1 - c.args.first) i 0 (omega arith)
    ∙ omega arith in
    let scene = turn.scene ∙ ap (λ s. with_death s c.loop-cell.cell) before.scene
    ∙ ap (with_death (with_deaths first (take i cells))) (sym here)
    ∙ sym (fold_more with_death first cells i 0 within) in
    let one = rw (← here) at c.in_ok-tell_clearing.ensures in
    let text = told-step with_death line_text first cells i 0 within c.args.text.now.items
    cleared_line before.scene before.text one in
    record {
      scene = rw next at scene;
      text = rw next at text;
      kept = (
        turn.size ∙ before.kept.0,
        turn.everyone ∙ before.kept.1,
        turn.first ∙ before.kept.2,
        turn.bank ∙ before.kept.3,
      );
    }

pub returns-clause-scene : goal.returns-clause-scene
returns-clause-scene c =
    let cells = cells_from c.args.first c.args.last in
    let i = c.loop-cell.cell - c.args.first in
    let many = length-range_with_len c.args.first (c.args.last + 1 - c.args.first) in
    rw (take_all i cells (omega (arith, many))) at c.loop-cell.invariant.scene

pub returns-clause-text : goal.returns-clause-text
returns-clause-text c =
    let cells = cells_from c.args.first c.args.last in
    let i = c.loop-cell.cell - c.args.first in
    let many = length-range_with_len c.args.first (c.args.last + 1 - c.args.first) in
    rw (take_all i cells (omega (arith, many))) at c.loop-cell.invariant.text
