use Rattle.checkpoint.proofs.ReadWorlds.{read_writable}
use Rattle.checkpoint.proofs.laws.read_worlds_can_be_written.Goals as goal

pub returns : goal.returns
returns c bytes state is =
    read_writable (λ head placed saved. record {
      valid = c.lines_can_go_on.ensures.valid head placed saved;
      fits = c.lines_can_go_on.ensures.fits head placed saved;
    }) bytes state is
