use Rattle.std.proofs.Common.{get_or, ◌≡◌, ◌+◌, ◌<◌, ◌∷◌, ◌++◌, [], ℕ, List, map, take, Some, None, length, ap, ◌∙◌, sym, append_assoc, arith}
use Rattle.std.specs.Prelude.{option_copied, slice_get}
use Rattle.saved_lines.proofs.Prelude.{take_more, map-append, slice_get-get_or, slice_get_within, get_or_from_slice_get, Letter, byte_of}
use Rattle.saved_lines.proofs.writing.nop_letters.Goals.{in-Some+in_ok-write_byte, in_default}
use Rattle.saved_lines.proofs.writing.nop_letters.Goals as goal

-- the bytes of one nop more
bytes_more : (nops : List Letter) (k : ℕ) (nop : Letter) → slice_get nops k ≡ Some nop
    → map byte_of (take (k + 1) nops) ≡ map byte_of (take k nops) ++ byte_of nop ∷ []
bytes_more nops k nop found =
    let within : k < length nops = slice_get_within nops k nop found in
    let read : get_or nops k nop ≡ nop = get_or_from_slice_get nops k nop nop found in
    ap (map byte_of) (take_more nops k nop within ∙ ap (λ (x : Letter). take k nops ++ x ∷ []) read)
    ∙ map-append byte_of (take k nops) (nop ∷ [])

slice_get_some : (nops : List Letter) (k : ℕ) → k < length nops
    → (nop : Letter) × (slice_get nops k ≡ Some nop)
slice_get_some [] k h = absurd (omega (arith, h))
slice_get_some (nop ∷ nops) k h = (get_or (nop ∷ nops) k nop, slice_get-get_or (nop ∷ nops) k nop h)

pub loop-at-preserved : goal.loop-at-preserved
loop-at-preserved c =
    elim c.match-get.branch [
      | in-Some+in_ok-write_byte w ↦
          let found : slice_get c.args.nops.now c.loop-at.at ≡ Some w.in-Some.nop.now =
          sym w.in-Some.ensures in
          let more = bytes_more c.args.nops.now c.loop-at.at w.in-Some.nop.now found in
          rw (
            w.out-is,
            w.in_ok-write_byte.ensures.ok,
            w.byte.ensures,
            c.loop-at.invariant,
            more,
            append_assoc,
          )
      | in_default w ↦
          let nops = c.args.nops.now in
          let within : c.loop-at.at < length nops = omega arith in
          let none : None ≡ slice_get nops c.loop-at.at =
          ap option_copied (sym w.in_default.is) ∙ c.get.ensures in
          let some = slice_get_some nops c.loop-at.at within in
          absurd (cc (none, some.1))
    ]
