use Rattle.std.proofs.Common.{◌≡◌, ◌∙◌, ap, ◌≤◌, Some, string_bytes}
use Rattle.world_config.proofs.Prelude.{IsUtf8-string_bytes, is_utf8-from_IsUtf8, members_depth, table_view, members_for, values_of}
use Rattle.toml.specs.Parse.{parse_document}
use Rattle.world_config.proofs.ReadBackLemmas.{config_in-members, members_depth-for}
use Rattle.world_config.proofs.printing.print.Goals as goal

pub returns-in-Ok-table_to_string : goal.returns-in-Ok-table_to_string
returns-in-Ok-table_to_string c =
    let v = values_of c.args.config.now in
    let seen : table_view c.in-Ok.table ≡ members_for v = c.in-Ok.ensures in
    let deep : members_depth (table_view c.in-Ok.table) ≤ 80 = rw seen (members_depth-for v) in
    let back : parse_document (string_bytes c.in-Ok-table_to_string.text) ≡ Some (members_for v) =
    c.in-Ok-table_to_string.ensures.reads_back deep ∙ ap Some seen in
    rw (is_utf8-from_IsUtf8 _ (IsUtf8-string_bytes c.in-Ok-table_to_string.text), back)
    (config_in-members c.args.config.now)
