use Rattle.std.proofs.Common.{◌≡◌, ◌∙◌, ◌<◌, ◌≤◌, ℕ, List, [], Option, None, Bor, take, drop, length, sym, ap, arith}
use Rattle.std.specs.Prelude.{option_copied}
use Rattle.saved_lines.proofs.Prelude.{words_of, read_within, any_flag}
use Rattle.saved_lines.proofs.ItemLemmas.{all_within, behind, number_ends}
use Rattle.saved_lines.proofs.reading.numbers_first.Goals as goal

pub returns-in_err-left-clause-read : goal.returns-in_err-left-clause-read
returns-in_err-left-clause-read g c =
    let ranges = c.args.ranges.now in
    let at = c.loop-at.at in
    let front = take at c.loop-at.numbers in
    let low : at < length ranges = omega (arith, c.told-ranges, c.loop-at-test.true) in
    let nothing : words_of (option_copied c.loop-at.left) ≡ [] =
    ap (λ (o : Option (Bor (List ℕ))). words_of (option_copied o)) c.in_err-left.was in
    let all : None ≡ read_within ranges (words_of (option_copied c.args.rest)) =
    sym (number_ends ranges front at any_flag low)
    ∙ ap (λ (ws : List (List ℕ)). behind front (read_within (drop at ranges) ws)) (sym nothing)
    ∙ c.loop-at.invariant.read in
    grind (arith, all, c.from_residual.ensures)

pub returns-clause-within : goal.returns-clause-within
returns-clause-within g c =
    let ranges = c.args.ranges.now in
    let at = c.loop-at.at in
    let numbers = c.loop-at.numbers in
    let enough : length ranges ≤ at = omega (arith, c.told-ranges, c.loop-at-test.false) in
    let long : length numbers ≤ at =
    omega (arith, c.loop-at.invariant.long, c.loop-at-test.false) in
    all_within ranges numbers at (words_of (option_copied c.args.rest))
    (words_of (option_copied c.loop-at.left)) enough long c.loop-at.invariant.read
