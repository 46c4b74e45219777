use Rattle.std.proofs.Common.{◌≡◌, Option}
use Rattle.avida_program.proofs.Prelude.{SinkState, Change, Command, TellsOf, Work, Obeys, Serves, Ended, status_of}
use Rattle.avida_program.specs.declared.status.Status.{Status}
use Rattle.avida_program.proofs.serving.serve.Goals as goal

-- what was done, and what tells of it, is what the status promises
served : {command : Option Command} {work : Work} {err : Change SinkState} {s : Status}
    (ended : Ended)
    → s ≡ status_of ended → Obeys command work ended → TellsOf err ended → Serves command work err s
served ended is obeys tells = record { ended = ended; status_is = is; obeys = obeys; tells = tells }

pub returns : goal.returns
returns g c = record {
  serves =
      served c.obey-ended.result c.of.ensures c.obey-ended.ensures c.write_fault_line.ensures;
}
