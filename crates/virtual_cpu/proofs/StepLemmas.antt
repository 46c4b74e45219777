-- What no step changes.
use Rattle.std.proofs.Common.{◌≡◌, ℕ, ℤ, Option, Some, None, List, [], ◌∷◌, Bool, true, false, refl, sym, ◌∙◌, ap, subst, Bool}
use Rattle.virtual_cpu.proofs.Prelude.{Letter, NopA, NopB, NopC, IfNEqu, IfLess, IfLabel, MovHead, SwapStk, HCopy, HAlloc, HDivide, HSearch, Head, Ip, Read, Write, Machine, with_ip_marked, modifier_of, on_modifier, on_modifier_of, template_of, on_template, on_last_of, skipping_if, after_if_n_equ, after_if_less, after_set_flow, after_shift_r, after_shift_l, after_inc, after_dec, after_push, after_pop, after_swap_stk, after_swap, after_add, after_sub, after_nand, after_io, head, after_mov_head, after_jmp_head, after_get_head, after_if_label, after_h_search, with_match, with_search_for, after_h_copy, can_allocate, with_allocation, moving, allocating_if, effect_of, KeepsLimits}
use Rattle.virtual_cpu.specs.declared.step_answer.StepAnswer.{StepAnswer}

-- a machine that doesn't change keeps its limits
same : (m : Machine) → KeepsLimits m m
same m = record { birth_length = refl; limit = refl }

-- two changes in turn keep the limits where each of them does
via : (a b c : Machine) → KeepsLimits a b → KeepsLimits b c → KeepsLimits a c
via a b c p q = record { birth_length = q.birth_length ∙ p.birth_length; limit = q.limit ∙ p.limit }

-- the limits stay where IP goes on to a nop, or has none to go to
on_modifier_of-keeps : (nop : Option Letter) (m : Machine) → KeepsLimits m (on_modifier_of nop m)
on_modifier_of-keeps (Some nop) m = record { birth_length = refl; limit = refl }
on_modifier_of-keeps None m = same m

-- the limits stay where IP goes on to the modifier after it
on_modifier-keeps : (m : Machine) → KeepsLimits m (on_modifier m)
unfolding on_modifier
on_modifier-keeps m = on_modifier_of-keeps (modifier_of m) m

-- the limits stay where IP goes on to the last of some nops
on_last_of-keeps : (nops : List Letter) (m : Machine) → KeepsLimits m (on_last_of nops m)
on_last_of-keeps [] m = same m
on_last_of-keeps (nop ∷ nops) m = record { birth_length = refl; limit = refl }

-- the limits stay where IP goes on to the last nop of the template after it
on_template-keeps : (m : Machine) → KeepsLimits m (on_template m)
unfolding on_template
on_template-keeps m = on_last_of-keeps (template_of m) m

-- the limits stay whether a place is passed over or not
skipping_if-keeps : (test : Bool) (m : Machine) → KeepsLimits m (skipping_if test m)
skipping_if-keeps true m = record { birth_length = refl; limit = refl }
skipping_if-keeps false m = same m

-- the limits stay after a search, with a match or without one
with_match-keeps : (m : Machine) (count : ℕ) (first : Option ℕ)
    → KeepsLimits m (with_match m count first)
with_match-keeps m count (Some place) = record { birth_length = refl; limit = refl }
with_match-keeps m count None = record { birth_length = refl; limit = refl }

-- the limits stay after a search for any template, the empty one too
with_search_for-keeps : (m : Machine) (nops : List Letter) → KeepsLimits m (with_search_for m nops)
with_search_for-keeps m [] = record { birth_length = refl; limit = refl }
with_search_for-keeps m (nop ∷ nops) = with_match-keeps m _ _

-- the limits stay whether IP advances or is the head that was moved
moving-keeps : (head : Head) (m : Machine) → KeepsLimits m (moving head m).0
moving-keeps Ip m = same m
moving-keeps Read m = record { birth_length = refl; limit = refl }
moving-keeps Write m = record { birth_length = refl; limit = refl }

-- the limits stay whether memory grows or not
allocating_if-keeps : (test : Bool) (m : Machine) → KeepsLimits m (allocating_if test m).0
unfolding with_allocation
allocating_if-keeps true m = record { birth_length = refl; limit = refl }
allocating_if-keeps false m = record { birth_length = refl; limit = refl }

-- a row that changes something else after IP has gone on to the modifier keeps the limits
modified-keeps : (m n : Machine) → n.birth_length ≡ (on_modifier m).birth_length
    → n.limit ≡ (on_modifier m).limit → KeepsLimits m n
modified-keeps m n birth_length limit =
    via m (on_modifier m) n (on_modifier-keeps m)
    (record { birth_length = birth_length; limit = limit })

-- the row of each letter keeps the limits
pub effect_of-keeps : (letter : Letter) (m : Machine) (input : ℤ) (copy : Option Letter)
    → KeepsLimits m (effect_of letter m input copy).0
unfolding after_if_n_equ after_if_less after_set_flow after_shift_r after_shift_l after_inc
    after_dec after_push after_pop after_swap_stk after_swap after_add after_sub after_nand after_io
    after_mov_head after_jmp_head after_get_head after_if_label after_h_search after_h_copy
effect_of-keeps NopA m input copy = record { birth_length = refl; limit = refl }
effect_of-keeps NopB m input copy = record { birth_length = refl; limit = refl }
effect_of-keeps NopC m input copy = record { birth_length = refl; limit = refl }
effect_of-keeps HDivide m input copy = record { birth_length = refl; limit = refl }
effect_of-keeps SwapStk m input copy = record { birth_length = refl; limit = refl }
effect_of-keeps HCopy m input copy = record { birth_length = refl; limit = refl }
effect_of-keeps IfNEqu m input copy =
    let k = skipping_if-keeps _ (on_modifier m) in modified-keeps m _ k.birth_length k.limit
effect_of-keeps IfLess m input copy =
    let k = skipping_if-keeps _ (on_modifier m) in modified-keeps m _ k.birth_length k.limit
effect_of-keeps IfLabel m input copy =
    let k = skipping_if-keeps _ (on_template m) in via m (on_template m) _ (on_template-keeps m)
    (record { birth_length = k.birth_length; limit = k.limit })
effect_of-keeps HSearch m input copy =
    let k = with_search_for-keeps (on_template m) (template_of m) in
    via m (on_template m) _ (on_template-keeps m)
    (record { birth_length = k.birth_length; limit = k.limit })
effect_of-keeps MovHead m input copy =
    let k = moving-keeps (head m) (after_mov_head m) in modified-keeps m _ k.birth_length k.limit
effect_of-keeps HAlloc m input copy = allocating_if-keeps (can_allocate m) m
effect_of-keeps _ m input copy = modified-keeps m _ refl refl

-- a letter has its effect
pub effect_keeps_limits : (m n : Machine) (letter : Letter) (input : ℤ) (copy : Option Letter)
    (did : StepAnswer) → (n, did) ≡ effect_of letter m input copy → KeepsLimits m n
effect_keeps_limits m n letter input copy did is_effect =
    subst (λ (p : Machine × StepAnswer). KeepsLimits m p.0) (sym is_effect)
    (effect_of-keeps letter m input copy)

-- a step marks a place, and keeps the limits after that
pub step_keeps_limits : (m marked n : Machine) → marked ≡ with_ip_marked m → KeepsLimits marked n
    → KeepsLimits m n
step_keeps_limits m marked n is_marked k = record {
  birth_length = k.birth_length ∙ ap (λ (x : Machine). x.birth_length) is_marked;
  limit = k.limit ∙ ap (λ (x : Machine). x.limit) is_marked;
}
