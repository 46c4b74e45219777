use Rattle.std.proofs.Common.{◌+◌, ◌*◌}
use Rattle.saved_worlds.proofs.Prelude.{values_of, world_after, StandInRange}
use Rattle.saved_worlds.proofs.Runs.{run_fits, run_valid}
use Rattle.saved_worlds.proofs.laws.runs_can_go_on.Goals as goal

-- who stand in the world of the run are in range
stand : (c : goal.After-organisms_stay_in_range)
    → StandInRange (values_of c.args.config.now) (1 + 65536000 * c.args.updates)
    (world_after (values_of c.args.config.now) c.args.updates)
stand c = record {
  cells = c.organisms_stay_in_range.ensures.ids.cells;
  sound = c.organisms_are_sound.ensures.each;
  each = c.organisms_stay_in_range.ensures.each;
  own = c.organisms_stay_in_range.ensures.ids.own;
}

pub returns-clause-valid : goal.returns-clause-valid
returns-clause-valid c =
    run_valid c.args.config.now c.args.updates c.requires
    c.organisms_stay_in_range.ensures.ids (stand c)

pub returns-clause-fits : goal.returns-clause-fits
returns-clause-fits c =
    run_fits c.args.config.now c.args.updates c.requires
    c.organisms_stay_in_range.ensures.ids (stand c)
