use Rattle.checkpoint.proofs.laws.advanced_worlds_are_read_again.Goals as goal

pub returns-clause-again : goal.returns-clause-again
returns-clause-again c bytes state more is early fits =
    let read = c.read_worlds_can_be_written.ensures bytes state is in
    c.written_is_read_again.ensures _
    (record { valid = c.states_stay_valid.ensures.valid state more read.valid early; fits = fits })

pub returns-clause-room : goal.returns-clause-room
returns-clause-room c bytes state more is early room =
    let read = c.read_worlds_can_be_written.ensures bytes state is in
    c.states_stay_valid.ensures.fits state more read.valid early room
