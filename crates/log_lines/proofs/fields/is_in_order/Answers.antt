use Rattle.std.proofs.Common.{◌≡◌, ◌<◌, ◌∷◌, ◌∙◌, [], List, length, true, refl, arith}
use Rattle.log_lines.proofs.Prelude.{Change, in_order}
use Rattle.log_lines.proofs.fields.is_in_order.Goals as goal

-- fewer than two changes are in order
few_in_order : (changes : List Change) → length changes < 2 → true ≡ in_order changes
few_in_order [] few = refl
few_in_order (change ∷ []) few = refl
few_in_order (change ∷ next ∷ changes) few = absurd (omega (arith, few))

pub returns : goal.returns
returns c = few_in_order c.loop-rest.rest.now c.in_default.len_below ∙ c.loop-rest.invariant
