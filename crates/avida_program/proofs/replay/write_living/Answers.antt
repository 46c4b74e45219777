use Rattle.std.proofs.Common.{◌∙◌, ap, arith, ◌++◌, Err, [], ◌∷◌, map, codes, decimal}
use Rattle.avida_program.proofs.Prelude.{err_from_is_err_and, byte_of, resident_line, writes_held, writes_short, writes_then}
use Rattle.lineage_log.specs.Replay.{Resident}
use Rattle.avida_program.proofs.replay.write_living.Goals as goal

pub returns-in_err-make_room : goal.returns-in_err-make_room
returns-in_err-make_room g c =
    let p = err_from_is_err_and c.from_residual.result c.from_residual.ensures.1 in
    rw (p.1, p.2) (writes_short (resident_line c.args.living.now) c.in_err-make_room.ensures.writes)

pub push_place-requires : goal.push_place-requires
push_place-requires g c = omega (arith, c.in_ok-make_room.ensures.room)

pub returns-in_err-write_letters : goal.returns-in_err-write_letters
returns-in_err-write_letters g c =
    let p = err_from_is_err_and c.from_residual-in_err-write_letters.result
    c.from_residual-in_err-write_letters.ensures.1 in
    let place =
    decimal c.args.living.now.cell ++ codes " " ++ decimal c.args.living.now.id ++ codes " " in
    let held = writes_held (g.O.Sink.seen c.make_room.new.out) _ _ place c.push_place.ensures in
    let wrote = writes_then {r = Err c.in_err-write_letters.field-0.0}
    (map byte_of c.letters.result.now) (writes_then place c.in_ok-make_room.ensures.writes held)
    c.in_err-write_letters.ensures in
    let genome = c.letters.ensures.letters ∙ ap (λ (r : Resident). r.genome) c.living.view_is in
    rw (p.1, p.2, ← genome) (writes_short (10 ∷ []) wrote)

pub returns : goal.returns
returns g c =
    let place =
    decimal c.args.living.now.cell ++ codes " " ++ decimal c.args.living.now.id ++ codes " " in
    let held = writes_held (g.O.Sink.seen c.make_room.new.out) _ _ place c.push_place.ensures in
    let wrote = writes_then (map byte_of c.letters.result.now)
    (writes_then place c.in_ok-make_room.ensures.writes held) c.in_ok-write_letters.ensures in
    let genome = c.letters.ensures.letters ∙ ap (λ (r : Resident). r.genome) c.living.view_is in
    rw (← genome) (writes_then (10 ∷ []) wrote c.write_byte.ensures)
