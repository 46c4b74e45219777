use Rattle.std.proofs.Common.{◌≡◌, ◌∙◌, ℕ, List, Option, length, subst, sym, ap, arith}
use Rattle.std.specs.Prelude.{IfOk, option_copied, option_map}
use Rattle.saved_lines.proofs.Prelude.{words_of, values_of_line, read_form, SavedLine}
use Rattle.saved_lines.proofs.FormLemmas.{line_is, one_byte, other_mark}
use Rattle.saved_lines.proofs.reading.read_saved_line.Goals as goal

pub returns-in-len1 : goal.returns-in-len1
returns-in-len1 c =
    let mark = c.split_at.result.0.now in
    let words = words_of (option_copied c.split_at.result.1) in
    let one : length mark ≡ 1 = omega (arith, c.in-len1.len_at_least, c.in-len1.len_below) in
    let is = ap (λ (m : List ℕ). read_form m words) (sym (one_byte mark one))
    ∙ line_is c.args.piece.now mark words c.split_at.ensures.pieces in
    subst (λ (o : Option SavedLine).
    IfOk c.read_form.result (λ found. option_map values_of_line found ≡ o)) is c.read_form.ensures

pub returns-in-empty : goal.returns-in-empty
returns-in-empty c =
    let mark = c.split_at.result.0.now in
    let words = words_of (option_copied c.split_at.result.1) in
    let other : length mark ≡ 1 → ⊥ = λ one. omega (arith, one, c.in-empty.len_below) in
    sym (other_mark mark words other)
    ∙ line_is c.args.piece.now mark words c.split_at.ensures.pieces

pub returns-in-len2-up : goal.returns-in-len2-up
returns-in-len2-up c =
    let mark = c.split_at.result.0.now in
    let words = words_of (option_copied c.split_at.result.1) in
    let other : length mark ≡ 1 → ⊥ = λ one. omega (arith, one, c.in-len2-up.len_at_least) in
    sym (other_mark mark words other)
    ∙ line_is c.args.piece.now mark words c.split_at.ensures.pieces
