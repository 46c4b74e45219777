use Rattle.std.proofs.Common.{◌≡◌, take}
use Rattle.world_core.proofs.Prelude.{numbers_of, values_of}
use Rattle.world_core.proofs.SettingsLemmas.{rates_by}
use Rattle.world_core.proofs.settings.rates_at.Given as goal

abbrev pub invariant-loop-event : goal.invariant-loop-event
invariant-loop-event l =
    numbers_of l.rates ≡ rates_by (values_of l.config).rates l.update
    (take l.event-index l.event-items)
