-- Modifiers and templates (docs/MACHINE.md, "Modifiers", "Templates").
use Rattle.std.specs.Prelude.{◌+◌, ◌%◌, Option, Some, None, List, [], ◌∷◌, length, if◌then◌else◌}
use Rattle.virtual_cpu.specs.Prelude.{Letter, NopA, NopB, NopC, is_nop, template_after}
use Rattle.virtual_cpu.specs.declared.registers.Register.{Register}
use Rattle.virtual_cpu.specs.declared.registers.Register.TheVariants.{Ax, Bx, Cx}
use Rattle.virtual_cpu.specs.declared.heads.Head.{Head}
use Rattle.virtual_cpu.specs.declared.heads.Head.TheVariants.{Ip, Read, Write}
use Rattle.virtual_cpu.specs.Machine.{Machine, letter_in_memory, place_after, with_ip_marked, with_ip_advanced, with_head_at}

-- the letter where it is a nop
abbrev pub as_nop : Letter → Option Letter
as_nop letter = if is_nop letter then Some letter else None

-- the nop at the place after IP, across the end
abbrev pub modifier_of : Machine → Option Letter
modifier_of m = as_nop (letter_in_memory m (place_after m m.heads.ip))

-- the register that a modifier picks, or the default
abbrev pub register_by : Option Letter → Register → Register
register_by (Some NopA) default = Ax
register_by (Some NopB) default = Bx
register_by (Some NopC) default = Cx
register_by _ default = default

-- the head that a modifier picks, or the default
abbrev pub head_by : Option Letter → Head → Head
head_by (Some NopA) default = Ip
head_by (Some NopB) default = Read
head_by (Some NopC) default = Write
head_by _ default = default

-- the register that the modifier after IP picks, or the default
abbrev pub register_picked : Machine → Register → Register
register_picked m default = register_by (modifier_of m) default

-- the head that the modifier after IP picks, or the default
abbrev pub head_picked : Machine → Head → Head
head_picked m default = head_by (modifier_of m) default

-- IP at the next place, which is marked
abbrev pub on_next_place : Machine → Machine
on_next_place m = with_ip_marked (with_ip_advanced m)

-- IP on the modifier, where there is one
abbrev pub on_modifier_of : Option Letter → Machine → Machine
on_modifier_of (Some nop) m = on_next_place m
on_modifier_of None m = m

-- IP on the modifier after it, where there is one
unfoldable pub on_modifier : Machine → Machine
on_modifier m = on_modifier_of (modifier_of m) m

-- the nops after IP, across the end, at most ten
unfoldable pub template_of : Machine → List Letter
template_of m = template_after m.memory m.heads.ip

-- IP on the last of these nops; only the first of them is marked
abbrev pub on_last_of : List Letter → Machine → Machine
on_last_of [] m = m
on_last_of (nop ∷ nops) m =
    let n = on_next_place m in
    with_head_at n Ip ((n.heads.ip + length nops) % length n.memory)

-- IP on the last nop of the template after it
unfoldable pub on_template : Machine → Machine
on_template m = on_last_of (template_of m) m
