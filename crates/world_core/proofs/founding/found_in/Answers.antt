use Rattle.std.proofs.Common.{◌≡◌, ◌∙◌, ap, arith, length, subst, sym}
use Rattle.world_core.proofs.Prelude.{on_ok_weaker, letters, with_genome, Link, values_of, next_id, founder_link, founder_of, CanStand, SceneValue, scene_in, with_occupant}
use Rattle.world_core.proofs.ComingLemmas.{with_link, found_is, founder-stands, newcomer_is}
use Rattle.world_core.proofs.founding.found_in.Given as given
use Rattle.world_core.proofs.founding.found_in.Goals.{In_ok-organism}
use Rattle.world_core.proofs.founding.found_in.Goals as goal

-- how the founder stands in the list of all
abbrev link : (g : given.Over) (c : In_ok-organism g) → Link
link g c = founder_link (next_id (scene_in c.args.scene.now)) c.args.scene.now.update c.args.cell
    (letters c.args.genome.now)

-- the founder
made : (g : given.Over) (c : In_ok-organism g) → c.in_ok-organism.organism
    ≡ founder_of (values_of c.args.config.now) c.args.cell c.args.nth (letters c.args.genome.now)
made g c = c.in_ok-organism.ensures
    ∙ ap (founder_of (values_of c.args.config.now) c.args.cell c.args.nth)
    c.in_ok-handle.ensures.genome

-- the scene once it has come
found : (g : given.Over) (c : In_ok-organism g) (last : SceneValue)
    → last ≡ with_occupant c.add_founder.new.scene c.args.cell
    (record { id = c.next_id-id.result; organism = c.in_ok-organism.organism })
    → last ≡ with_occupant (with_link c.args.scene.now (link g c)
    (with_genome c.args.scene.now.bank (letters c.args.genome.now))) c.args.cell
    (record {
      id = next_id (scene_in c.args.scene.now);
      organism = founder_of (values_of c.args.config.now) c.args.cell c.args.nth
          (letters c.args.genome.now);
    })
found g c last came =
    found_is c.args.scene.now c.add_founder.new.scene last (link g c) _
    c.next_id-id.result c.in_ok-organism.organism _ c.in_ok-handle.ensures.scene
    c.next_id-id.ensures (made g c) came

pub founder-requires-clause-genome : goal.founder-requires-clause-genome
founder-requires-clause-genome g c =
    omega (arith, ap length c.in_ok-handle.ensures.genome, c.requires.genome)

pub put_over-requires-clause-cell : goal.put_over-requires-clause-cell
put_over-requires-clause-cell g c =
    omega (
      arith,
      c.requires.cell,
      ap (λ (s : SceneValue). length s.cells) c.in_ok-handle.ensures.scene,
    )

pub put_over-requires-clause-organism : goal.put_over-requires-clause-organism
put_over-requires-clause-organism g c =
    subst (CanStand c.add_founder.new.scene.bank c.in_ok-handle.handle.number)
    (sym (made g (goal.at.put_over-requires-clause-organism g c).In_ok-organism))
    (founder-stands (values_of c.args.config.now) c.args.cell c.args.nth
    c.in_ok-handle.handle.number (letters c.args.genome.now) c.add_founder.new.scene.bank
    c.in_ok-handle.ensures.number
    (omega (arith, c.requires.genome, c.args.config.now.greatest_length_bounds)))

pub returns-clause-scene : goal.returns-clause-scene
returns-clause-scene g c =
    let at = (goal.at.returns-clause-scene g c).In_ok-organism in
    on_ok_weaker c.put_over.result (λ came. ap scene_in (found g at c.put_over.new.self came)
    ∙ newcomer_is c.args.scene.now (link g at)
    (with_genome c.args.scene.now.bank (letters c.args.genome.now))
    (founder_of (values_of c.args.config.now) c.args.cell c.args.nth
    (letters c.args.genome.now))) c.put_over.ensures

pub returns-clause-bank : goal.returns-clause-bank
returns-clause-bank g c =
    let at = (goal.at.returns-clause-bank g c).In_ok-organism in
    on_ok_weaker c.put_over.result (λ came.
    ap (λ (s : SceneValue). s.bank) (found g at c.put_over.new.self came)) c.put_over.ensures

pub returns-clause-first : goal.returns-clause-first
returns-clause-first g c =
    let at = (goal.at.returns-clause-first g c).In_ok-organism in
    on_ok_weaker c.put_over.result (λ came.
    ap (λ (s : SceneValue). s.first) (found g at c.put_over.new.self came)) c.put_over.ensures
