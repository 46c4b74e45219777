use Rattle.std.proofs.Common.{◌≡◌, ◌∙◌, List, Option, Some, None, ap, sym, option_map}
use Rattle.census.specs.declared.dominant.Dominant.{Dominant}
use Rattle.genome.specs.Genome.{letters}
use Rattle.instruction_set.specs.declared.letter.Letter.{Letter}
use Rattle.world_core.specs.declared.picture.WorldPicture.{WorldPicture}
use Rattle.assay.proofs.PictureLemmas.{dominant_shown}
use Rattle.assay.proofs.seed_run.dominant_in.Goals as goal

-- the letters of a dominant genome
abbrev letters_of : Option Dominant → Option (List Letter)
letters_of = option_map (λ (d : Dominant). letters d.genome.value)

pub returns-in-Some : goal.returns-in-Some
returns-in-Some c =
    let world = c.args.world.now in
    let picture = c.in_ok-picture in
    let shown = dominant_shown world.config world.update picture.picture.value
    picture.ensures.config picture.ensures.update in
    let found : picture.picture.value.dominant ≡ Some c.in-Some.dominant =
    sym (ap (λ (p : WorldPicture). p.dominant) c.deref.ensures) ∙ c.in-Some.is in
    ap Some (c.in_ok-copy-in-Some.ensures ∙ ap letters c.deref-in-Some.ensures)
    ∙ sym (ap letters_of found) ∙ shown

pub returns : goal.returns
returns c =
    let world = c.args.world.now in
    let picture = c.in_ok-picture in
    let shown = dominant_shown world.config world.update picture.picture.value
    picture.ensures.config picture.ensures.update in
    let found : picture.picture.value.dominant ≡ None =
    sym (ap (λ (p : WorldPicture). p.dominant) c.deref.ensures) ∙ c.in-None.is in
    sym (ap letters_of found) ∙ shown
