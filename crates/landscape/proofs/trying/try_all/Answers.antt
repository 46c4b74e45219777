use Rattle.std.proofs.Common.{Global, Vec, ap, ◌∙◌}
use Rattle.avida_port.specs.declared.memory.Memory.{Memory}
use Rattle.genome.specs.Genome.{letters}
use Rattle.rayon.proofs.ToStd.{slice-AllZip}
use Rattle.landscape.specs.declared.entry.Entry.{Entry}
use Rattle.landscape.specs.Landscape.{entry_of}
use Rattle.landscape.proofs.MapLemmas.{IsResult, gathered}
use Rattle.landscape.proofs.trying.try_all.Goals as goal

pub returns : goal.returns
returns g c =
    let f = entry_of (letters c.args.genome.now) c.args.steps in
    let slice = ap (λ it. it.slice.now) c.with_min_len.ensures.base ∙ c.par_iter.ensures in
    let h = c.in_ok-entries.ensures in
    let chain = rw (c.map.ensures.base, c.map.ensures.f) at h.1 in
    gathered Memory f (λ (v : Vec Entry Global). v.items) c.args.changes.now h.0
    c.in_ok-entries.entries
    (slice-AllZip chain.0 c.args.changes.now (chain.1 ∙ slice) (IsResult Memory f) h.0 chain.2) h.2
