use Rattle.std.proofs.Common.{◌∙◌, ap, arith, get_or}
use Rattle.std.specs.Prelude.{vec_capacity}
use Rattle.virtual_cpu.proofs.Prelude.{NopA, letters_of, SiteLists}
use Rattle.virtual_cpu.proofs.SiteLemmas.{length-seen}
use Rattle.virtual_cpu.proofs.sites.Sites.letter.Goals as goal

pub letter_at-requires : goal.letter_at-requires
letter_at-requires c =
    let items = c.self.inside.items in
    let long = length-seen items.items (vec_capacity items) c.args.self.now c.self.view_is in
    rw c.as_slice.ensures.value (omega (arith, long))

pub returns : goal.returns
returns c = c.letter_at.ensures
    ∙ ap (λ s. get_or (letters_of s) c.args.place NopA) c.as_slice.ensures.value
    ∙ ap (λ (l : SiteLists). get_or l.letters c.args.place NopA) c.self.view_is
