use Rattle.std.proofs.Common.{ℕ, List, ◌∙◌, ap, sym}
use Rattle.std.specs.Prelude.{option_map}
use Rattle.log_lines.proofs.BirthFrontLemmas.{line_front}
use Rattle.lineage_log.proofs.Prelude.{line_values, pieces_log, place_of}
use Rattle.lineage_log.proofs.ReadLemmas.{bad_line}
use Rattle.lineage_log.proofs.log_reader.take_text.Goals as goal

pub returns-in_default-clause-fault : goal.returns-in_default-clause-fault
returns-in_default-clause-fault c =
    let reader = c.args.reader.now in
    λ other. ap (λ (pieces : List (List ℕ)). pieces_log reader.number (place_of reader.place) pieces)
    c.requires.front
    ∙ bad_line reader.number (place_of reader.place) c.args.text.now c.args.behind.now
    (sym c.in_ok-line.ensures ∙ ap (option_map line_values) c.in_default.is)

pub take_line-requires : goal.take_line-requires
take_line-requires c = record {
  front = line_front c.args.reader.now.rest.now c.args.text.now c.args.behind.now
      (line_values c.in-Some.line) c.requires.front
      (sym c.in_ok-line.ensures ∙ ap (option_map line_values) c.in-Some.is);
}
