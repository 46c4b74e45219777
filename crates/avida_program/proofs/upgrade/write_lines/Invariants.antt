-- The lines so far are written.
use Rattle.std.proofs.Common.{ℕ, List, [], take, Ok}
use Rattle.std.specs.Prelude.{flat_map}
use Rattle.avida_program.proofs.Prelude.{line_values, line_text, Writes}
use Rattle.log_lines.specs.declared.log_line.LogLine.{LogLine}
use Rattle.avida_program.proofs.upgrade.write_lines.Given as goal

-- the text of a line
abbrev pub text_of : LogLine → List ℕ
text_of line = line_text (line_values line)

abbrev pub invariant-loop-line : goal.invariant-loop-line
invariant-loop-line g l =
    Writes (g.O.Sink.seen l.fn.out) (g.O.Sink.seen l.out) [] l.piece.items
    (flat_map text_of (take l.line-index l.lines)) (Ok tt)
