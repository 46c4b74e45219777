use Rattle.std.proofs.Common.{◌≡◌, ℕ, List, ◌++◌, Result, subst}
use Rattle.std.specs.Prelude.{flat_map}
use Rattle.avida_program.proofs.Prelude.{err_from_is_err_and, SinkState, SinkStop, depth_line, Writes, last_lines, writes_held, writes_short, writes_then}
use Rattle.phylogeny.specs.declared.depths.Depth.{Depth}
use Rattle.avida_program.proofs.tree.write_lines.Goals as goal

-- the lines of the same depths
same_lines : {a b : SinkState} {old new : List ℕ} {r : Result (Unit {0}) SinkStop}
    (these those : List Depth) (rest : List ℕ)
    → Writes a b old new (flat_map depth_line these ++ rest) r → these ≡ those
    → Writes a b old new (flat_map depth_line those ++ rest) r
same_lines {a = a} {b = b} {old = old} {new = new} {r = r} these those rest p same =
    subst (λ d. Writes a b old new (flat_map depth_line d ++ rest) r) same p

pub returns-in_err-write_depths : goal.returns-in_err-write_depths
returns-in_err-write_depths g c =
    let p = err_from_is_err_and c.from_residual.result c.from_residual.ensures.1 in
    let last = last_lines c.args.found.now in
    rw (p.1, p.2) (same_lines c.as_slice.result.now c.args.found.now.depths last
    (writes_short last c.in_err-write_depths.ensures) c.as_slice.ensures)

pub returns-in_err-make_room : goal.returns-in_err-make_room
returns-in_err-make_room g c =
    let p = err_from_is_err_and c.from_residual-in_err-make_room.result
    c.from_residual-in_err-make_room.ensures.1 in
    let last = last_lines c.args.found.now in
    let wrote = writes_then last c.in_ok-write_depths.ensures
    (writes_short last c.in_err-make_room.ensures.writes) in
    rw (p.1, p.2) (same_lines c.as_slice.result.now c.args.found.now.depths last wrote
    c.as_slice.ensures)

pub returns : goal.returns
returns g c =
    let last = last_lines c.args.found.now in
    let held = writes_held (g.O.Sink.seen c.make_room.new.out) _ _ last c.push_last.ensures in
    let wrote = writes_then last c.in_ok-write_depths.ensures
    (writes_then last c.in_ok-make_room.ensures.writes held) in
    same_lines c.as_slice.result.now c.args.found.now.depths last wrote c.as_slice.ensures
