use Rattle.std.proofs.Common.{◌≡◌, ◌∙◌, ap, sym, get_or, None, Some, length, ◌<◌}
use Rattle.std.specs.Prelude.{slice_get}
use Rattle.world_core.proofs.Prelude.{PopulationValue}
use Rattle.world_core.proofs.CellTableLemmas.{nobody, somebody}
use Rattle.world_core.proofs.KeptOfLemmas.{key-is, key-read}
use Rattle.world_core.proofs.population.Population.number_at.Goals as goal

pub returns-in-Some : goal.returns-in-Some
returns-in-Some c =
    let cells = c.self.inside.cells in
    let keys = c.self.inside.keys.items in
    let bank = c.self.inside.genotypes in
    let were : cells ≡ c.args.self.now.cells =
    ap (λ (p : PopulationValue). p.cells) c.self.view_is in
    let interned : bank ≡ c.args.self.now.bank =
    ap (λ (p : PopulationValue). p.bank) c.self.view_is in
    let within : c.args.cell < length cells = rw were c.requires in
    let who = somebody (get_or cells c.args.cell None) _
    (sym c.standing_at.ensures ∙ c.in-Some.is) in
    let key = key-read cells bank keys c.self.inside.census c.args.cell c.index.result.now
    c.self.invariant within c.index.ensures in
    let number : slice_get c.args.self.now.bank c.index.result.now ≡ Some who.0.organism.genome =
    rw (← interned, key) (key-is cells bank keys c.self.inside.census c.args.cell who.0 within who.1
    c.self.invariant) in
    rw (← were, who.1) (ap Some number)

pub returns-in-None : goal.returns-in-None
returns-in-None c =
    let cells = c.self.inside.cells in
    let were : cells ≡ c.args.self.now.cells =
    ap (λ (p : PopulationValue). p.cells) c.self.view_is in
    let empty = nobody (get_or cells c.args.cell None)
    (sym c.standing_at.ensures ∙ c.in-None.is) in
    rw (← were, empty)
