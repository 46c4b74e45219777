use Rattle.std.proofs.Common.{◌≡◌, ℕ, List, [], None, Some, Result, sym, subst, append-nil}
use Rattle.avida_program.proofs.Prelude.{err_from_is_err_and, SinkState, SinkStop, Entry, Trial, entry_line, neighbour_line, Writes, writes_held, writes_short, writes_then}
use Rattle.std.specs.Option.{option_map_or}
use Rattle.avida_program.proofs.neighbours.write_entry.Goals as goal

-- the line of a trial is that of the entry which has it
line_of_trial : {a b : SinkState} {old new : List ℕ} {r : Result (Unit {0}) SinkStop}
    (entry : Entry) (trial : Trial) → entry.trial ≡ Some trial
    → Writes a b old new (neighbour_line entry.at entry.letter trial) r
    → Writes a b old new (entry_line entry) r
line_of_trial {a = a} {b = b} {old = old} {new = new} {r = r} entry trial is p =
    subst (λ t. Writes a b old new (option_map_or (neighbour_line entry.at entry.letter) t []) r)
    (sym is) p

-- nothing is the line of an entry without a trial
line_of_none : {a b : SinkState} {old new : List ℕ} {r : Result (Unit {0}) SinkStop} (entry : Entry)
    → entry.trial ≡ None
    → Writes a b old new [] r → Writes a b old new (entry_line entry) r
line_of_none {a = a} {b = b} {old = old} {new = new} {r = r} entry is p =
    subst (λ t. Writes a b old new (option_map_or (neighbour_line entry.at entry.letter) t []) r)
    (sym is) p

pub returns-in_default : goal.returns-in_default
returns-in_default g c =
    let held = c.args.piece.now.items in
    line_of_none c.args.entry.now c.in_default.is
    (writes_held (g.O.Sink.seen c.args.out.now) held held [] (sym (append-nil held)))

pub returns-in_err-make_room : goal.returns-in_err-make_room
returns-in_err-make_room g c =
    let p = err_from_is_err_and c.from_residual.result c.from_residual.ensures.1 in
    let entry = c.args.entry.now in
    let line = neighbour_line entry.at entry.letter c.in-Some.trial in
    rw (p.1, p.2) (line_of_trial entry c.in-Some.trial c.in-Some.is
    (writes_short line c.in_err-make_room.ensures.writes))

pub returns : goal.returns
returns g c =
    let entry = c.args.entry.now in
    let line = neighbour_line entry.at entry.letter c.in-Some.trial in
    let held = writes_held (g.O.Sink.seen c.make_room.new.out) _ _ line c.push_neighbour.ensures in
    line_of_trial entry c.in-Some.trial c.in-Some.is
    (writes_then line c.in_ok-make_room.ensures.writes held)
