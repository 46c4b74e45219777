use Rattle.std.proofs.Common.{◌≡◌, ◌∙◌, ◌++◌, List, Option, ap, subst}
use Rattle.std.specs.Prelude.{flat_map}
use Rattle.avida_program.proofs.Prelude.{Entry, Trial, Landscape, base_line, entry_line, survey_text, totals_line, totals_of, WritesAll}
use Rattle.landscape.specs.declared.totals.Totals.{Totals}
use Rattle.avida_program.proofs.neighbours.write_found.Goals as goal

-- the lines of a survey's parts are its text
parts_text : (found : Landscape) (base : Option Trial) (entries : List Entry) (totals : Totals)
    → base ≡ found.base → entries ≡ found.entries → totals ≡ totals_of found
    → base_line base ++ flat_map entry_line entries ++ totals_line totals ≡ survey_text found
parts_text found base entries totals same_base same_entries same_totals =
    ap (λ b. base_line b ++ flat_map entry_line entries ++ totals_line totals) same_base
    ∙ ap (λ es. base_line found.base ++ flat_map entry_line es ++ totals_line totals) same_entries
    ∙ ap (λ t. base_line found.base ++ flat_map entry_line found.entries ++ totals_line t)
    same_totals

pub returns : goal.returns
returns g c =
    let same_base = ap (λ (s : Landscape). s.base) c.found.view_is in
    let same_entries = c.as_slice.ensures ∙ ap (λ (s : Landscape). s.entries) c.found.view_is in
    let same = parts_text c.args.found.now _ _ _ same_base same_entries c.totals-totals.ensures in
    subst (λ text. WritesAll {T = Unit {0}} (g.O.Sink.seen c.args.out.now)
    (g.O.Sink.seen c.write_parts.new.out) text c.write_parts.result) same c.write_parts.ensures
