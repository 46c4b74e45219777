use Rattle.std.proofs.Common.{refl, ◌<◌, ◌+◌, ◌≡◌, ◌∙◌, arith, ◌++◌, ◌∷◌, [], length, take, get_or, true, length-take}
use Rattle.std.specs.Prelude.{unwrap_or}
use Rattle.label_search.proofs.Prelude.{common_steps, length-map, map-append, NopA, complement_of, is_nop}
use Rattle.label_search.proofs.TemplateLemmas.{nops_read-room, is_nop-complement}
use Rattle.label_search.proofs.template.Template.complement.Goals as goal

pub loop-at-preserved : goal.loop-at-preserved
loop-at-preserved c =
    let nops = c.args.self.now in
    let at = c.loop-at.at in
    let within : at < length nops = omega (arith, c.len-at-end.ensures.value) in
    let nop = get_or nops at NopA in
    let is : is_nop nop ≡ true = c.len-at-end.ensures.template.nops at NopA within in
    let read = rw c.nop.ensures at c.complement_of.ensures in
    let more : take (at + 1) nops ≡ take at nops ++ nop ∷ [] = grind (arith, common_steps) in
    let long : length c.loop-at.complement ≡ length (take at nops) =
    rw (c.loop-at.invariant, length-map) refl in
    let noted = rw read at c.note.ensures.read
    ∙ nops_read-room c.loop-at.complement (unwrap_or (complement_of nop) nop)
    (is_nop-complement nop is)
    (omega (arith, long, length-take at nops, c.len-at-end.ensures.few)) in
    noted ∙ rw (c.loop-at.invariant, more, map-append) refl
