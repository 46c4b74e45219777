use Rattle.std.proofs.Common.{◌≡◌, ◌∙◌, sym, ap, List, length}
use Rattle.organism.proofs.Prelude.{Letter, letters, Machine, OrganismState, organism_view}
use Rattle.organism.proofs.ImageLemmas.{machine-again}
use Rattle.organism.proofs.organism.Organism.image.Goals as goal

pub returns-clause-organism : goal.returns-clause-organism
returns-clause-organism c =
    let old = c.self.inside in
    let same : letters c.in_ok-genome.genome.value ≡ letters old.genome.value =
    ap letters c.in_ok-genome.ensures in
    let limit : c.args.self.now.machine.limit ≡ old.machine.limit =
    sym (ap (λ (o : OrganismState). o.machine.limit) c.self.view_is) in
    let birth_length : length (letters c.in_ok-genome.genome.value) ≡ old.machine.birth_length =
    ap length same ∙ sym c.self.invariant.birth_length in
    let machine = machine-again c.images_are_whole.ensures old.machine c.in_ok-cpu.cpu _ _
    c.in_ok-cpu.ensures.machine c.in_ok-cpu.ensures.image birth_length limit in
    let of : List Letter → Machine → OrganismState =
    λ genome machine. record (organism_view old) { genome = genome; machine = machine } in
    ap (of (letters c.in_ok-genome.genome.value)) machine
    ∙ ap (λ (genome : List Letter). of genome old.machine) same ∙ c.self.view_is
