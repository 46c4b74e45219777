use Rattle.std.proofs.Common.{◌≤◌, ◌+◌, arith}
use Rattle.avida_program.proofs.AdvanceLemmas.{adds_up, advances_in_two, resumes_in_two}
use Rattle.avida_program.proofs.SavedLemmas.{read_as}
use Rattle.avida_program.proofs.laws.updates_add_up.Goals as goal

pub returns-clause-states : goal.returns-clause-states
returns-clause-states c = adds_up

pub returns-clause-resumed : goal.returns-clause-resumed
returns-clause-resumed c = resumes_in_two

pub returns-clause-advanced : goal.returns-clause-advanced
returns-clause-advanced c bytes state first second so =
    let read = read_as (first + second) bytes state so.reads in
    let early : state.head.update + first ≤ 1000000 = omega (arith, read.early) in
    advances_in_two bytes state first second so read
    (c.advanced_worlds_are_read_again.ensures.again bytes state first read.is early so.fits)
