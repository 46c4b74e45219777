-- The table that is printed of a configuration: every key with its value, be it the default or not,
-- in the order of bytes. For example, `age_limit` and `ancestor` come first. No clause of a public
-- function cites this file.
use Rattle.std.specs.Prelude.{List, [], ◌∷◌}
use Rattle.world_config.specs.Prelude.{Members, no_members}
use Rattle.world_config.specs.declared.key.Key.{Key}
use Rattle.world_config.specs.KeyTable.{key_name, keys}
use Rattle.world_config.specs.Values.{ConfigValues}
use Rattle.world_config.specs.EventTables.{insert_member}
use Rattle.world_config.specs.Groups.{printed_at}

-- the members, and what is printed at these keys
abbrev pub with_keys : List Key → ConfigValues → Members → Members
with_keys [] v ms = ms
with_keys (key ∷ others) v ms =
    with_keys others v (insert_member (key_name key) (printed_at v key) ms)

-- the members of a configuration's table
abbrev pub members_for : ConfigValues → Members
members_for v = with_keys keys v no_members
