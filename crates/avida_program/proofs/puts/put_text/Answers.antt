use Rattle.avida_program.proofs.Prelude.{put_written}
use Rattle.avida_program.proofs.puts.put_text.Goals as goal

pub returns : goal.returns
returns g c = put_written c.put.ensures.puts
