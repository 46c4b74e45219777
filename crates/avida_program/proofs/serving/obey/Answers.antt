use Rattle.std.proofs.Common.{map, string_bytes}
use Rattle.avida_program.proofs.Prelude.{command_of}
use Rattle.avida_program.proofs.NothingDone.{nothing_done}
use Rattle.avida_program.proofs.serving.obey.Goals as goal

pub returns-in-Err-Memory : goal.returns-in-Err-Memory
returns-in-Err-Memory g c =
    nothing_done (command_of (map string_bytes c.args.words.now)) _ _ _ _
