-- What stands behind the first comma of a text.
use Rattle.std.proofs.Common.{◌≡◌, ◌<◌, ◌+◌, ℕ, List, [], Option, None, Some, length, arith}
use Rattle.std.specs.Prelude.{MatchOption}
use Rattle.command_line.proofs.Prelude.{after_first, before_first, position_or_len, drop_all, is_comma}
use denote.Ref.{Bor}

-- the clause of `split_once` at a comma
pub cut_so : (text : List ℕ) (cut : Option (Bor (List ℕ) × Bor (List ℕ)))
    → MatchOption cut (position_or_len is_comma text ≡ length text)
    (λ x. (x.0.now ≡ before_first is_comma text) × (x.1.now ≡ after_first is_comma text)
    × (position_or_len is_comma text < length text))
    → MatchOption cut (after_first is_comma text ≡ [])
    (λ x. (x.0.now ≡ before_first is_comma text) × (x.1.now ≡ after_first is_comma text))
cut_so text None none = drop_all (position_or_len is_comma text + 1) text (omega arith)
cut_so text (Some x) so = (so.0, so.1)
