use Rattle.std.proofs.Common.{◌+◌, ◌<◌, length, arith}
use Rattle.event_orders.proofs.Prelude.{take-length, slice_get_within, values_of, Gather}
use Rattle.event_orders.proofs.Between.{world_at, genotypes_at, pictures_at}
use Rattle.event_orders.proofs.Looks.{looks_never_fall}
use Rattle.event_orders.proofs.laws.any_order.Goals as goal

pub returns-clause-world : goal.returns-clause-world
returns-clause-world c n seat at =
    let within : n < length c.args.events.now =
    slice_get_within c.args.events.now n (Gather seat) at in
    world_at (values_of c.args.config.now) c.args.events.now c.requires (n + 1) (omega arith)

pub returns-clause-genomes : goal.returns-clause-genomes
returns-clause-genomes c =
    genotypes_at (values_of c.args.config.now) c.args.events.now
    c.genotypes_are_what_was_interned.ensures.each c.requires

pub returns-clause-pictures : goal.returns-clause-pictures
returns-clause-pictures c =
    pictures_at (values_of c.args.config.now) c.args.events.now c.requires
    (take-length c.args.events.now)

pub returns-clause-observers : goal.returns-clause-observers
returns-clause-observers c =
    looks_never_fall (values_of c.args.config.now) c.args.events.now c.requires
