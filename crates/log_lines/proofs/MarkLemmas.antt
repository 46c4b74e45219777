-- The form that a mark of one byte chooses.
use Rattle.std.proofs.Common.{◌≡◌, ℕ, List, [], ◌∷◌, arith}
use Rattle.log_lines.proofs.Prelude.{nat_tests, common_steps, LineForm, forms, plain_forms, read_by}

-- an equal mark chooses the same form
pub by_mark : (table : List LineForm) (words : List (List ℕ)) (mark n : ℕ) → mark ≡ n
    → read_by table (n ∷ []) words ≡ read_by table (mark ∷ []) words
by_mark table words mark n is = rw is

module _ (words : List (List ℕ)) (mark : ℕ) where
  -- a form with another mark is passed over
  other_mark : (form : LineForm) (others : List LineForm) → (mark ≡ form.mark → ⊥)
      → read_by others (mark ∷ []) words ≡ read_by (form ∷ others) (mark ∷ []) words
  other_mark form others apart = grind (arith, common_steps, nat_tests, apart)

  -- a mark that no form with a genome has
  pub is_plain : (mark ≡ 66 → ⊥) → (mark ≡ 76 → ⊥) → (mark ≡ 73 → ⊥)
      → read_by plain_forms (mark ∷ []) words ≡ read_by forms (mark ∷ []) words
  is_plain birth start injected =
      grind (arith, common_steps, nat_tests, birth, start, injected)
