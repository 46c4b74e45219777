use Rattle.std.proofs.Common.{◌++◌, ◌∙◌, List, Some, ap, sym}
use Rattle.std.specs.Prelude.{option_copied, option_map}
use Rattle.log_lines.proofs.Prelude.{Change, each, read_change, pieces_of}
use Rattle.log_lines.proofs.TimesLemmas.{each_first, each_stops, first_shorter, same_map}
use Rattle.log_lines.proofs.WordLemmas.{split_some}
use Rattle.log_lines.proofs.fields.item_list.Goals as goal

pub loop-left-init : goal.loop-left-init
loop-left-init c =
    let all = each read_change (pieces_of 44 (Some c.args.word.now)) in
    ap (λ (l : List Change). option_map (λ others. l ++ others) all) c.new-found.ensures.items
    ∙ sym (same_map all)

pub loop-left-preserved : goal.loop-left-preserved
loop-left-preserved c =
    let one = c.in-Some-first_change.one in
    let behind = pieces_of 44 (option_copied c.in-Some-first_change.others) in
    ap (λ (l : List Change). option_map (λ others. l ++ others) (each read_change behind))
    c.in_ok-push.ensures.items
    ∙ each_first read_change c.loop-left.found.items (pieces_of 44 (option_copied c.loop-left.left))
    behind one (each read_change (pieces_of 44 (Some c.args.word.now)))
    (rw c.in-Some.is c.in-Some-first_change.ensures) c.loop-left.invariant

pub returns-in_default-first_change : goal.returns-in_default-first_change
returns-in_default-first_change c =
    each_stops read_change c.loop-left.found.items (pieces_of 44 (option_copied c.loop-left.left))
    (each read_change (pieces_of 44 (Some c.args.word.now)))
    (rw c.in-Some.is (split_some 44 c.in-Some.rest.now))
    (rw c.in-Some.is c.in_default-first_change.ensures) c.loop-left.invariant

pub loop-left-smaller : goal.loop-left-smaller
loop-left-smaller c =
    let behind = pieces_of 44 (option_copied c.in-Some-first_change.others) in
    first_shorter read_change (pieces_of 44 (option_copied c.loop-left.left)) behind
    c.in-Some-first_change.one (rw c.in-Some.is c.in-Some-first_change.ensures)
