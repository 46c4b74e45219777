use Rattle.std.proofs.Common.{◌≡◌, map, take, string_bytes}
use Rattle.world_config.proofs.Prelude.{byte_of}
use Rattle.world_config.proofs.event_tables.letters_of.Given as goal

abbrev pub invariant-loop-letter : goal.invariant-loop-letter
invariant-loop-letter l = string_bytes l.text ≡ map byte_of (take l.letter-index l.letters)
