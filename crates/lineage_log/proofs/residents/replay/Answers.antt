use Rattle.std.proofs.Common.{◌≡◌, ◌∙◌, List, ap}
use Rattle.lineage_log.proofs.Prelude.{lines_of, reader_of, Resident, residents_from, replay_of, kept_genomes}
use Rattle.std.proofs.lemmas.Result.{IfOk-weaker}
use Rattle.lineage_log.proofs.ReplayLemmas.{leaves}
use Rattle.lineage_log.proofs.residents.replay.Goals as goal

pub living_in-requires : goal.living_in-requires
living_in-requires c =
    let left = leaves (lines_of c.lines.result.now) (reader_of c.in_ok-reader.reader)
    c.lines.ensures.good c.in_ok-reader.ensures in
    record { kept = left.kept; few = left.few }

pub returns : goal.returns
returns c =
    let reader = c.in_ok-reader.reader in
    let left = leaves (lines_of c.lines.result.now) (reader_of reader) c.lines.ensures.good
    c.in_ok-reader.ensures in
    IfOk-weaker c.living_in.result
    (λ (livings : List Resident). livings
    ≡ residents_from 0 reader.standing (kept_genomes reader.people))
    (λ (livings : List Resident). livings ≡ replay_of c.args.log.now)
    (λ livings is. is ∙ left.living ∙ ap replay_of c.lines.ensures.values) c.living_in.ensures
