use Rattle.std.proofs.Common.{◌≡◌, ◌∙◌, ap, sym, ℕ}
use Rattle.avida_program.proofs.Prelude.{err_from_is_err_and, values_of, ConfigValues, WorldValue, world_in, world_after, nothing_written, kept_holds, kept_writes, IsFinalWorld, path_lines, path_text}
use Rattle.world_rules.specs.Descent.{line_in}
use Rattle.avida_program.proofs.lineage.run_and_write.Goals as goal

-- the line of descent in the last world is that of the configuration
text_is : (config : ConfigValues) (cell : ℕ) (world : WorldValue) → IsFinalWorld config world
    → path_lines (line_in (world_in world) cell) ≡ path_text config cell
text_is config cell world is =
    ap (λ (k : ConfigValues). path_lines (line_in (world_after k world.update) cell)) is.config
    ∙ ap (λ (n : ℕ). path_lines (line_in (world_after config n) cell)) is.update

pub returns-in_err-world-clause-text : goal.returns-in_err-world-clause-text
returns-in_err-world-clause-text g c =
    let p = err_from_is_err_and c.from_residual.result c.from_residual.ensures.1 in
    rw (p.1, p.2) (nothing_written (g.O.Sink.seen c.args.out.now)
    (path_text (values_of c.args.config) c.args.cell))

pub returns-clause-world : goal.returns-clause-world
returns-clause-world g c =
    kept_holds (IsFinalWorld (values_of c.args.config)) c.in_ok-world.world c.kept.result
    c.kept.ensures.value c.in_ok-world.ensures.final

pub returns-clause-text : goal.returns-clause-text
returns-clause-text g c =
    let same = text_is (values_of c.args.config) c.args.cell c.in_ok-world.world
    c.in_ok-world.ensures.final in
    rw (sym same) (kept_writes c.kept.ensures.ok c.kept.ensures.err c.write_descent-written.ensures)
