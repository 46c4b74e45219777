-- The words of other crates that this one cites most often, passed on from one place.
pub use Rattle.genome.specs.Genome.{letters}
pub use Rattle.instruction_set.specs.Defaults.{Default, HeadIp, NoDefault, RegisterBx, RegisterCx, default_of}
pub use Rattle.instruction_set.specs.Letter.{class_of, same_letters}
pub use Rattle.instruction_set.specs.declared.letter.Letter.{Letter}
pub use Rattle.instruction_set.specs.declared.letter.Letter.TheVariants.{Add, Dec, GetHead, HAlloc, HCopy, HDivide, HSearch, IfLabel, IfLess, IfNEqu, Inc, Io, JmpHead, MovHead, Nand, NopA, NopB, NopC, Pop, Push, SetFlow, ShiftL, ShiftR, Sub, Swap, SwapStk}
pub use Rattle.label_search.specs.Search.{first_match}
pub use Rattle.label_search.specs.Site.{Site, letters_of}
pub use Rattle.label_search.specs.Template.{IsTemplate, complements_of, is_nop, nops_read, template_after}
pub use Rattle.std.specs.Int.{bit_not, cast_signed, cast_unsigned, int_rem_euclid, int_shl, int_shr, int_wrapping_add, int_wrapping_sub, w32}
