use Rattle.std.proofs.Common.{arith}
use Rattle.std.specs.Prelude.{vec_capacity}
use Rattle.virtual_cpu.proofs.Prelude.{common_steps}
use Rattle.virtual_cpu.proofs.SiteLemmas.{length-seen}
use Rattle.virtual_cpu.proofs.sites.Sites.len.Goals as goal

pub returns : goal.returns
returns c =
    let items = c.self.inside.items in
    let long = length-seen items.items (vec_capacity items) c.args.self.now c.self.view_is in
    grind (arith, common_steps, long)
