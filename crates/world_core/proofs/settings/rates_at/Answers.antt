use Rattle.std.proofs.Common.{arith}
use Rattle.world_core.proofs.Prelude.{frame_of}
use Rattle.world_core.proofs.SettingsLemmas.{rate-fits}
use Rattle.world_core.proofs.settings.rates_at.Goals as goal

pub with_rate-rates-requires : goal.with_rate-rates-requires
with_rate-rates-requires c =
    let config = c.args.config.now in
    rate-fits (frame_of config.width config.height config.updates config.least_length
    config.greatest_length) config.event c.as_slice-event-items.result.now
    c.loop-event.event-index c.event-item.result c.in-Rate.name c.in-Rate.ppm
    config.event_bounds.fit c.as_slice-event-items.ensures (omega arith) c.event-item.is (cc)
