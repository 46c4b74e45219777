use Rattle.saved_worlds.proofs.Valid.{can_after, can_next, fits_after, update_after}
use Rattle.saved_worlds.proofs.laws.states_stay_valid.Goals as goal

pub returns-clause-next : goal.returns-clause-next
returns-clause-next c state can early = can_next c.ranges_are_kept.ensures state can early

pub returns-clause-valid : goal.returns-clause-valid
returns-clause-valid c state more can early =
    can_after c.ranges_are_kept.ensures state more can early

pub returns-clause-update : goal.returns-clause-update
returns-clause-update c = update_after

pub returns-clause-fits : goal.returns-clause-fits
returns-clause-fits c state more can early room =
    fits_after c.ranges_are_kept.ensures state more can early room
