use Rattle.std.proofs.Common.{refl}
use Rattle.avida_program.proofs.Prelude.{ReadsLines, ReadsState, log_input_of, resume_input_of}
use Rattle.avida_program.proofs.ReadEnds.{only_reads, reads_so}
use Rattle.avida_program.proofs.serving.carry_out.Goals as goal

pub returns-in-Trace : goal.returns-in-Trace
returns-in-Trace g c =
    rw c.in-Trace.is (only_reads _ _ _ (λ work ended h. h) refl _ _ refl refl c.trace.ensures)

pub returns-in-Run : goal.returns-in-Run
returns-in-Run g c = rw c.in-Run.is c.run.ensures

pub returns-in-Lineage : goal.returns-in-Lineage
returns-in-Lineage g c = rw c.in-Lineage.is (c.lineage.ensures (g.W.Sink.seen c.args.watch.now))

pub returns-in-Bench : goal.returns-in-Bench
returns-in-Bench g c = rw c.in-Bench.is
    (c.bench.ensures (g.S.Source.seen c.args.source.now) (g.W.Sink.seen c.args.watch.now))

pub returns-in-Assay : goal.returns-in-Assay
returns-in-Assay g c =
    rw c.in-Assay.is (only_reads _ _ _ (λ work ended h. h) refl _ _ refl refl c.assay.ensures)

pub returns-in-Save : goal.returns-in-Save
returns-in-Save g c =
    rw c.in-Save.is (only_reads _ _ _ (λ work ended h. h) refl _ _ refl refl c.save.ensures)

pub returns-in-Resume : goal.returns-in-Resume
returns-in-Resume g c =
    let more = c.in-Resume.asked.more in
    let reads = reads_so (resume_input_of more) (ReadsState more)
    (c.inputs_are_read_one_way.ensures.state more) _ in
    rw c.in-Resume.is (only_reads _ _ _ reads refl _ _ refl refl c.resume.ensures)

pub returns-in-Advance : goal.returns-in-Advance
returns-in-Advance g c =
    let more = c.in-Advance.asked.more in
    let reads = reads_so (resume_input_of more) (ReadsState more)
    (c.inputs_are_read_one_way.ensures.state more) _ in
    rw c.in-Advance.is (only_reads _ _ _ reads refl _ _ refl refl c.advance.ensures)

pub returns-in-Replay : goal.returns-in-Replay
returns-in-Replay g c =
    let reads = reads_so log_input_of ReadsLines c.inputs_are_read_one_way.ensures.lines _ in
    rw c.in-Replay.is (only_reads _ _ _ reads refl _ _ refl refl c.replay.ensures)

pub returns-in-Upgrade : goal.returns-in-Upgrade
returns-in-Upgrade g c =
    let reads = reads_so log_input_of ReadsLines c.inputs_are_read_one_way.ensures.lines _ in
    rw c.in-Upgrade.is (only_reads _ _ _ reads refl _ _ refl refl c.upgrade.ensures)

pub returns-in-Tree : goal.returns-in-Tree
returns-in-Tree g c =
    let reads = reads_so log_input_of ReadsLines c.inputs_are_read_one_way.ensures.lines _ in
    rw c.in-Tree.is (only_reads _ _ _ reads refl _ _ refl refl c.tree.ensures)

pub returns-in-Landscape : goal.returns-in-Landscape
returns-in-Landscape g c =
    rw c.in-Landscape.is (only_reads _ _ _ (λ work ended h. h) refl _ _ refl refl c.landscape.ensures)
