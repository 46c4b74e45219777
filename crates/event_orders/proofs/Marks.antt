-- Which newborns are marked as interned.
use Rattle.std.proofs.Common.{◌≡◌, ℕ, Bool, true, refl, sym, ap, ◌∙◌}
use Rattle.event_orders.proofs.Prelude.{with_value_at}
use Rattle.event_orders.proofs.Going.{at_same, at_either}
use Rattle.event_orders.proofs.Pairs.{Pair}

-- a newborn is marked
abbrev pub marked : (ℕ → ℕ → Bool) → Pair → ℕ → ℕ → Bool
marked done p = with_value_at done p.0 (with_value_at (done p.0) p.1 true)

-- that newborn is marked then
pub marked_same : (done : ℕ → ℕ → Bool) (p : Pair) → marked done p p.0 p.1 ≡ true
marked_same done p =
    ap (λ (f : ℕ → Bool). f p.1) (at_same done p.0 p.0 (with_value_at (done p.0) p.1 true) refl)
    ∙ at_same (done p.0) p.1 p.1 true refl

-- each other one is as it was
pub marked_other : (done : ℕ → ℕ → Bool) (p : Pair) (c k : ℕ) → ((c ≡ p.0) × (k ≡ p.1) → ⊥)
    → marked done p c k ≡ done c k
marked_other done p c k other =
    at_either (λ (f : ℕ → Bool). f k ≡ done c k) done p.0 c (with_value_at (done p.0) p.1 true)
    (λ e. at_either (λ b. b ≡ done c k) (done p.0) p.1 k true (λ f. absurd (other (e, f)))
    (λ n. ap (λ c. done c k) (sym e)))
    (λ n. refl)

-- one that was marked stays so
pub marked_kept : (done : ℕ → ℕ → Bool) (p : Pair) (c k : ℕ) → done c k ≡ true
    → marked done p c k ≡ true
marked_kept done p c k h =
    at_either (λ (f : ℕ → Bool). f k ≡ true) done p.0 c (with_value_at (done p.0) p.1 true)
    (λ e. at_either (λ b. b ≡ true) (done p.0) p.1 k true (λ f. refl)
    (λ n. ap (λ c. done c k) (sym e) ∙ h))
    (λ n. h)
