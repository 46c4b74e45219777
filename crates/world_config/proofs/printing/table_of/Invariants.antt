use Rattle.std.proofs.Common.{◌≡◌, drop}
use Rattle.world_config.proofs.Prelude.{table_view, keys, members_for, with_keys, values_of}
use Rattle.world_config.proofs.printing.table_of.Given as goal

abbrev pub invariant-loop-key : goal.invariant-loop-key
invariant-loop-key l =
    with_keys (drop l.key-index keys) (values_of l.config) (table_view l.table)
    ≡ members_for (values_of l.config)
