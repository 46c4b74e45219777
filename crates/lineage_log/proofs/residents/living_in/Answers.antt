use Rattle.std.proofs.Common.{◌++◌, ◌∙◌, List, Some, None, sym, ap, append-nil}
use Rattle.lineage_log.proofs.Prelude.{Resident, residents_from, kept_genomes}
use Rattle.lineage_log.proofs.ResidentWalks.{cell_walked}
use Rattle.lineage_log.proofs.residents.living_in.Goals.{in-Some+in_ok-living_at+in_ok-push, in_default}
use Rattle.lineage_log.proofs.residents.living_in.Goals as goal

pub loop-cell-preserved : goal.loop-cell-preserved
loop-cell-preserved c =
    let slots = c.args.reader.now.standing in
    let genomes = kept_genomes c.args.reader.now.people in
    let cell = c.loop-cell.cell in
    let items = c.loop-cell.livings.items in
    let all = residents_from 0 slots genomes in
    elim c.match-get.branch [
      | in-Some+in_ok-living_at+in_ok-push w ↦
          let more = w.in_ok-push.ensures.items
          ∙ ap (λ (rs : List Resident). items ++ rs) w.in_ok-living_at.ensures in
          rw w.livings-is (cell_walked items w.push.new.self.items slots genomes cell
          (Some w.in-Some.id) all w.in-Some.ensures more c.loop-cell.invariant)
      | in_default w ↦
          rw w.livings-is (cell_walked items items slots genomes cell None all w.in_default.ensures
          (sym (append-nil items)) c.loop-cell.invariant)
    ]
