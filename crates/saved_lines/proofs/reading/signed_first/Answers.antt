use Rattle.std.proofs.Common.{◌≡◌, ◌∙◌, ◌+◌, ◌-◌, ◌<◌, ◌∷◌, ℕ, ℤ, List, Option, Bor, Some, set, take, length, length-set, sym, ap, arith}
use Rattle.std.specs.Prelude.{option_copied}
use Rattle.saved_lines.proofs.Prelude.{w32, cast_signed, cast_unsigned, to_z-of_z, words_of, front_more, read_signed, read_several}
use Rattle.saved_lines.proofs.ItemLemmas.{behind, item_on}
use Rattle.saved_lines.proofs.SignedLemmas.{signed_fits}
use Rattle.saved_lines.proofs.reading.signed_first.Goals as goal

pub loop-at-preserved : goal.loop-at-preserved
loop-at-preserved g c =
    let at = c.loop-at.at in
    let numbers = c.loop-at.numbers in
    let number = c.in_ok-numbers.field-0 in
    let word = c.split_at.result.0.now in
    let words = words_of (option_copied c.split_at.result.1) in
    let less : at < g.row.N = c.loop-at-test.true in
    let low : at < length numbers = omega (arith, c.loop-at.invariant.long, less) in
    let found : read_signed word ≡ Some number = sym c.in_ok-numbers.ensures in
    let same = to_z-of_z w32 number (signed_fits word number found) in
    let parts : words_of (option_copied c.loop-at.left) ≡ word ∷ words =
    ap (λ (o : Option (Bor (List ℕ))). words_of (option_copied o)) c.in_ok-left.was
    ∙ c.split_at.ensures.pieces in
    let others = read_several read_signed (g.row.N - (at + 1)) words in
    record {
      read = ap (λ (z : ℤ). behind (take (at + 1) (set numbers at z)) others) same
          ∙ ap (λ (l : List ℤ). behind l others) (front_more numbers at number low)
          ∙ sym (item_on read_signed (take at numbers) at g.row.N less word words number found)
          ∙ ap (λ (ws : List (List ℕ)). behind (take at numbers)
          (read_several read_signed (g.row.N - at) ws)) (sym parts)
          ∙ c.loop-at.invariant.read;
      long = length-set numbers at (cast_signed w32 (cast_unsigned w32 number))
          ∙ c.loop-at.invariant.long;
    }
