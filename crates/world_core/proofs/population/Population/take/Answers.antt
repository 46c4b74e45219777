use Rattle.std.proofs.Common.{◌≡◌, ◌∙◌, List, Option, ap, sym, get_or, None, length, ◌<◌}
use Rattle.world_core.proofs.Prelude.{organism_in, Occupant, PopulationValue}
use Rattle.world_core.proofs.CellTableLemmas.{nobody, somebody}
use Rattle.world_core.proofs.KeptOfLemmas.{IsKeptOf-empty, IsKeptOf-removed, can-remove, key-read}
use Rattle.world_core.proofs.population.Population.take.Goals.{in-Some, in_default}
use Rattle.world_core.proofs.population.Population.take.Goals as goal

pub remove-requires : goal.remove-requires
remove-requires c =
    let cells = c.self.inside.cells in
    let within : c.args.cell < length cells =
    rw (ap (λ (p : PopulationValue). p.cells) c.self.view_is) c.requires in
    let who = somebody (get_or cells c.args.cell None) _
    (sym c.standing_at.ensures ∙ c.in-Some.is) in
    let key = key-read cells c.self.inside.genotypes c.self.inside.keys.items
    c.self.inside.census c.args.cell c.index-key.result.now c.self.invariant within
    c.index-key.ensures in
    rw (key, sym who.2)
    (can-remove c.one_index.ensures.list cells c.self.inside.genotypes c.self.inside.keys.items
    c.self.inside.census c.self.inside.census c.args.cell within who.0 c.self.invariant who.1)

pub invariant_of-self : goal.invariant_of-self
invariant_of-self c =
    let cells = c.self.inside.cells in
    let within : c.args.cell < length cells =
    rw (ap (λ (p : PopulationValue). p.cells) c.self.view_is) c.requires in
    let before = c.self.inside.census in
    elim c.match-standing_at.branch [
      | in-Some w ↦
          let who = somebody (get_or cells c.args.cell None) _
          (sym c.standing_at.ensures ∙ w.in-Some.is) in
          let key = key-read cells c.self.inside.genotypes c.self.inside.keys.items before
          c.args.cell w.index-key.result.now c.self.invariant within w.index-key.ensures in
          let after = rw w.self-inside-is at c.take.ensures.after in
          rw (w.self-inside-is, after) (IsKeptOf-removed c.one_index.ensures.list cells c.self.inside.genotypes
          c.self.inside.keys.items before w.remove.new.self c.args.cell within who.0
          c.self.invariant who.1
          (rw (key, sym who.2) at w.remove.ensures))
      | in_default w ↦
          let empty = nobody (get_or cells c.args.cell None)
          (sym c.standing_at.ensures ∙ w.in_default.is) in
          let after = rw w.self-inside-is at c.take.ensures.after in
          rw (w.self-inside-is, after) (IsKeptOf-empty c.one_index.ensures.list cells
          c.self.inside.genotypes c.self.inside.keys.items before before c.args.cell within empty
          c.self.invariant)
    ]

pub returns-clause-who : goal.returns-clause-who
returns-clause-who c =
    let now = c.match-standing_at.self-inside in
    let same : now.cells ≡ c.args.self.now.cells =
    elim c.match-standing_at.branch [
      | in-Some w ↦ rw w.self-inside-is (ap (λ (p : PopulationValue). p.cells) c.self.view_is)
      | in_default w ↦ rw w.self-inside-is (ap (λ (p : PopulationValue). p.cells) c.self.view_is)
    ] in
    c.take.ensures.who
    ∙ ap (λ (cells : List (Option Occupant)). organism_in (get_or cells c.args.cell None)) same
