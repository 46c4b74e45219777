use Rattle.std.proofs.Common.{◌∙◌, sym}
use Rattle.world_config.proofs.Prelude.{at_drop_more, table_view, keys, with_keys, values_of}
use Rattle.world_config.proofs.printing.table_of.Goals as goal

pub loop-key-preserved : goal.loop-key-preserved
loop-key-preserved c =
    let v = values_of c.args.config.now in
    rw (c.in_ok-put.ensures, c.name.ensures, c.in_ok-value.ensures)
    (sym (at_drop_more (λ ks. with_keys ks v (table_view c.loop-key.table)) keys
    c.loop-key.key-index _ c.loop-key-test.true)
    ∙ c.loop-key.invariant)
