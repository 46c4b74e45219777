use Rattle.std.proofs.Common.{◌∙◌, ap, arith, map}
use Rattle.virtual_cpu.proofs.Prelude.{take_all, letter_by}
use Rattle.virtual_cpu.proofs.sites.text_in.Goals as goal

pub returns : goal.returns
returns c = c.loop-site.invariant.letters
    ∙ ap (map (letter_by c.args.clean)) (take_all c.loop-site.site-index c.args.sites.now (omega arith))
