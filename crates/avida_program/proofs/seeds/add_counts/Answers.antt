use Rattle.std.proofs.Common.{◌≡◌, List, ℕ, ◌++◌, append_assoc}
use Rattle.avida_program.proofs.seeds.add_counts.Goals as goal

module _ (t a b c d e f g : List ℕ) {u v w x y z end : List ℕ} where
  -- seven texts, one behind another
  texts_add_up : u ≡ t ++ a → v ≡ u ++ b → w ≡ v ++ c → x ≡ w ++ d → y ≡ x ++ e → z ≡ y ++ f
      → end ≡ z ++ g → end ≡ t ++ (a ++ (b ++ (c ++ (d ++ (e ++ (f ++ g))))))
  texts_add_up p q r s m n o = rw (o, n, m, s, r, q, p) (simp append_assoc)

pub returns : goal.returns
returns c =
    rw (← c.assay.view_is) (texts_add_up _ _ _ _ _ _ _ _ c.in_ok-write_number.ensures.ok
    c.in_ok-write_number-2.ensures.ok c.in_ok-add_sum.ensures
    c.in_ok-add_sum-2.ensures c.in_ok-write_number-3.ensures.ok c.in_ok-write_number-4.ensures.ok
    c.in_ok-add_numbers.ensures)
