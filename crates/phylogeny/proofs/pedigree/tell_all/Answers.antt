use Rattle.std.proofs.Common.{◌<◌, ◌∙◌, length, arith}
use Rattle.phylogeny.proofs.Prelude.{line_values}
use Rattle.phylogeny.proofs.ListLemmas.{not_past}
use Rattle.phylogeny.proofs.SlotLemmas.{parents_more, standing_more}
use Rattle.phylogeny.proofs.pedigree.tell_all.Goals.{in-Some+in_ok-tell, in_default}
use Rattle.phylogeny.proofs.pedigree.tell_all.Goals as goal

pub loop-at-preserved : goal.loop-at-preserved
loop-at-preserved c = elim c.match-get.branch [
  | in-Some+in_ok-tell w ↦
      let lines = c.args.log.now in
      let line = line_values w.in-Some.line.now in
      let old = c.loop-at.pedigree in
      let new = w.tell.new.self in
      rw w.pedigree-is (record {
        parents = parents_more lines c.loop-at.at line old.parents.items new.parents.items
            w.in-Some.ensures w.in_ok-tell.ensures.parents ∙ c.loop-at.invariant.parents;
        standing = standing_more lines c.loop-at.at line old.standing.items new.standing.items
            w.in-Some.ensures w.in_ok-tell.ensures.standing ∙ c.loop-at.invariant.standing;
      })
  | in_default w ↦
      let within : c.loop-at.at < length c.args.log.now = omega arith in
      absurd (not_past c.args.log.now c.loop-at.at within w.in_default.ensures)
]
