use Rattle.avida_program.proofs.TextEnds.{rest_put}
use Rattle.avida_program.proofs.puts.put_rest.Goals as goal

pub returns : goal.returns
returns g c = λ begun text wrote. rest_put text wrote c.as_slice.ensures.value c.put_text.ensures
