-- Reading a configuration (docs/FORMATS.md, "The configuration"): from the bytes of a document to
-- its values, or to its first refusal. For example, `width = 20` has the width 20 and each other
-- default, and `width = 0` is refused.
use Rattle.std.specs.Prelude.{ℕ, if◌then◌else◌, List, Option, Some, None, Result, Ok, Err}
use Rattle.world_config.specs.Prelude.{is_utf8, Members, option_map_or}
use Rattle.toml.specs.Parse.{parse_document}
use Rattle.world_config.specs.declared.key.Key.TheVariants as code
use Rattle.world_config.specs.declared.stop.ConfigStop.{ConfigStop}
use Rattle.world_config.specs.declared.stop.ConfigStop.TheVariants.{BadToml, BadEvent}
use Rattle.world_config.specs.Lookup.{items_at, frame_in}
use Rattle.world_config.specs.Refusal.{refusal_in}
use Rattle.world_config.specs.Events.{EventValue}
use Rattle.world_config.specs.EventForms.{events_of}
pub use Rattle.world_config.specs.Values.{values_in_table, ConfigValues}

-- what a table says with the events that were read, or the refusal of the nth member of its array
abbrev pub values_with : Members → Result (List EventValue) ℕ → Result ConfigValues ConfigStop
values_with ms (Ok happening) = Ok (values_in_table ms happening)
values_with ms (Err nth) = Err (BadEvent nth)

-- these values, unless there is a refusal
abbrev pub unless_refused :
    Option ConfigStop → Result ConfigValues ConfigStop → Result ConfigValues ConfigStop
unless_refused (Some stop) values = Err stop
unless_refused None values = values

-- a table's configuration: an unknown key or a wrong value refuses it before its events are tried
abbrev pub config_in : Members → Result ConfigValues ConfigStop
config_in ms =
    unless_refused (refusal_in ms)
    (values_with ms (events_of (frame_in ms) (items_at code.Event ms)))

-- the configuration that a document states, or its first refusal
abbrev pub config_of : List ℕ → Result ConfigValues ConfigStop
config_of bytes =
    option_map_or config_in (if is_utf8 bytes then parse_document bytes else None) (Err BadToml)
