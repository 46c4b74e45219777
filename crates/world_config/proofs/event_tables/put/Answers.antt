use Rattle.std.proofs.Common.{◌∙◌, ap}
use Rattle.world_config.proofs.Prelude.{table_view, view, members_view, insert_member}
use Rattle.world_config.proofs.TableLemmas.{members_view-insert_entry}
use Rattle.world_config.proofs.event_tables.put.Goals as goal

pub returns : goal.returns
returns c =
    ap members_view c.in_ok-insert.ensures.entries
    ∙ members_view-insert_entry c.args.table.now.entries c.in_ok-key.key c.args.value
    ∙ ap (λ k. insert_member k (view c.args.value) (table_view c.args.table.now))
    c.in_ok-key.ensures.ok
