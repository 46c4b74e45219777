-- What each instruction on heads or templates does before IP advances (docs/MACHINE.md, "The
-- instruction table", "Templates" and "h-search").
use Rattle.std.specs.Prelude.{pos, ◌+ℤ◌, ℕ, ℤ, ◌+◌, ◌-◌, ◌%◌, true, false, Option, Some, None, List, [], ◌∷◌, length, if◌then◌else◌, ◌-ℤ◌}
use Rattle.virtual_cpu.specs.Prelude.{Letter, same_letters, complements_of, first_match}
use Rattle.virtual_cpu.specs.declared.registers.Register.TheVariants.{Cx, Bx}
use Rattle.virtual_cpu.specs.declared.heads.Head.{Head}
use Rattle.virtual_cpu.specs.declared.heads.Head.TheVariants.{Ip}
use Rattle.virtual_cpu.specs.Parts.{value_of, head_place}
use Rattle.virtual_cpu.specs.Machine.{Machine, place_of_number, with_head_at, with_value, place_after, with_flow_at}
use Rattle.virtual_cpu.specs.Operands.{head_picked, on_modifier, template_of, on_template}
use Rattle.virtual_cpu.specs.RegisterEffects.{skipping_if}

-- the head that the modifier picks, IP by default
abbrev pub head : Machine → Head
head m = head_picked m Ip

-- mov-head
unfoldable pub after_mov_head : Machine → Machine
after_mov_head m = let n = on_modifier m in with_head_at n (head m) n.heads.flow

-- jmp-head
unfoldable pub after_jmp_head : Machine → Machine
after_jmp_head m =
    let n = on_modifier m in
    with_head_at n (head m)
    (place_of_number n (pos (head_place n.heads (head m)) +ℤ value_of n.registers Cx))

-- get-head
unfoldable pub after_get_head : Machine → Machine
after_get_head m = let n = on_modifier m in with_value n Cx (pos (head_place n.heads (head m)))

-- if-label
unfoldable pub after_if_label : Machine → Machine
after_if_label m =
    let n = on_template m in
    skipping_if (if same_letters n.nops (complements_of (template_of m)) then false else true) n

-- FLOW, BX and CX after a search
abbrev pub with_search : Machine → ℕ → ℤ → ℕ → Machine
with_search m flow bx cx = with_value (with_value (with_flow_at m flow) Bx bx) Cx (pos cx)

-- a search for this many nops with a match at a place, or without one
abbrev pub with_match : Machine → ℕ → Option ℕ → Machine
with_match m count (Some place) =
    with_search m ((place + count) % length m.memory) (pos (place + count - 1) -ℤ pos m.heads.ip)
    count
with_match m count None = with_search m (place_after m m.heads.ip) (pos 0) count

-- a search for the complement of a template
abbrev pub with_search_for : Machine → List Letter → Machine
with_search_for m [] = with_search m (place_after m m.heads.ip) (pos 0) 0
with_search_for m (nop ∷ nops) =
    with_match m (length (nop ∷ nops)) (first_match m.memory (complements_of (nop ∷ nops)))

-- h-search
unfoldable pub after_h_search : Machine → Machine
after_h_search m = with_search_for (on_template m) (template_of m)
