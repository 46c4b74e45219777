-- What the proofs of this crate cite from outside most often, passed on from one place.
pub use Rattle.label_search.specs.Template.{is_nop, last_ten, letter_after}
unfoldable pub use Rattle.label_search.specs.Template.{template_after}
pub use Rattle.std.proofs.lemmas.Grind.{common_steps}
pub use Rattle.std.proofs.lemmas.List.{drop-map, get_or-map, length-map, length-replicate, map-append, map-set, map_more, map_push, set-get_or, take-map, take_all, take_more}
pub use Rattle.std.proofs.lemmas.List.Elements.{All-append, All-cons, All-drop, All-nil, All-push, All-replicate, All-set, All-take}
pub use Rattle.virtual_cpu.specs.Effects.{allocating_if, effect_of, going_on, moving, telling}
pub use Rattle.virtual_cpu.specs.HeadEffects.{head, with_match, with_search, with_search_for}
unfoldable pub use Rattle.virtual_cpu.specs.HeadEffects.{after_get_head, after_h_search, after_if_label, after_jmp_head, after_mov_head}
pub use Rattle.virtual_cpu.specs.Machine.{IsMachine, Machine, fresh_machine, letter_in_memory, letter_under_ip, place_after, place_of_number, with_flow_at, with_head_at, with_ip_advanced, with_ip_marked, with_value}
pub use Rattle.virtual_cpu.specs.Operands.{modifier_of, on_last_of, on_modifier_of, on_next_place}
unfoldable pub use Rattle.virtual_cpu.specs.Operands.{on_modifier, on_template, template_of}
pub use Rattle.virtual_cpu.specs.Parts.{head_place, popped, pushed, register_after, top_of, value_of}
pub use Rattle.virtual_cpu.specs.Prelude.{Add, Dec, GetHead, HAlloc, HCopy, HDivide, HSearch, IfLabel, IfLess, IfNEqu, Inc, Io, JmpHead, Letter, MovHead, Nand, NopA, NopB, NopC, Pop, Push, SetFlow, ShiftL, ShiftR, Site, Sub, Swap, SwapStk, cast_signed, complements_of, int_rem_euclid, int_shl, int_shr, int_wrapping_add, int_wrapping_sub, letters_of, w32}
pub use Rattle.virtual_cpu.specs.RegisterEffects.{active_stack, nand_of, next, picked, skipping_if, value, with_active_stack, with_picked}
unfoldable pub use Rattle.virtual_cpu.specs.RegisterEffects.{after_add, after_dec, after_if_less, after_if_n_equ, after_inc, after_io, after_nand, after_pop, after_push, after_set_flow, after_shift_l, after_shift_r, after_sub, after_swap, after_swap_stk, output_of}
pub use Rattle.virtual_cpu.specs.Replication.{can_allocate, count_of, extra_places}
unfoldable pub use Rattle.virtual_cpu.specs.Replication.{after_h_copy, divide_question, with_allocation}
pub use Rattle.virtual_cpu.specs.SiteLists.{SiteLists, clean_of, copied_of, executed_of, fresh_lists, fresh_site, letter_by, lists_in, with_copy, with_places}
pub use Rattle.virtual_cpu.specs.Step.{AsksOf, KeepsLimits, TellsNothing}
unfoldable pub use Rattle.virtual_cpu.specs.Step.{step}
pub use Rattle.virtual_cpu.specs.View.{HoldsWords, machine_view}
pub use Rattle.virtual_cpu.specs.declared.heads.Head.{Head}
pub use Rattle.virtual_cpu.specs.declared.heads.Head.TheVariants.{Ip, Read, Write}
pub use Rattle.virtual_cpu.specs.declared.registers.Register.TheVariants.{Ax, Bx, Cx}
