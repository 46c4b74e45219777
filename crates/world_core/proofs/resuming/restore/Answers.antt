use Rattle.std.proofs.Common.{◌≡◌, ◌∙◌, ap, arith, length, set, Some, subst, sym}
use Rattle.world_core.proofs.Prelude.{on_ok_weaker, organism_of_image, IsSoundOrganism, CanStand, SceneValue}
use Rattle.world_core.proofs.resuming.restore.Given as given
use Rattle.world_core.proofs.resuming.restore.Goals.{In_ok-organism}
use Rattle.world_core.proofs.resuming.restore.Goals as goal

-- the organism has the values of the resident's image
made : (g : given.Over) (c : In_ok-organism g)
    → c.in_ok-organism.organism ≡ organism_of_image c.args.resident.now.image c.args.memory_limit
made g c = c.in_ok-organism.ensures ∙ c.in_ok-number.ensures.same c.args.memory_limit

pub organism_of-requires : goal.organism_of-requires
organism_of-requires g c =
    subst IsSoundOrganism (sym (c.in_ok-number.ensures.same c.args.memory_limit)) c.requires.sound

pub put_over-requires-clause-cell : goal.put_over-requires-clause-cell
put_over-requires-clause-cell g c =
    omega (
      arith,
      c.requires.cell,
      ap (λ (s : SceneValue). length s.cells) c.in_ok-number.ensures.scene,
    )

pub put_over-requires-clause-organism : goal.put_over-requires-clause-organism
put_over-requires-clause-organism g c =
    subst (CanStand c.intern_again.new.scene.bank c.in_ok-number.number)
    (sym (made g (goal.at.put_over-requires-clause-organism g c).In_ok-organism))
    (record {
      genome = c.in_ok-number.ensures.number;
      age = c.requires.age;
      merit = c.requires.sound.merit;
    })

pub returns-clause-cells : goal.returns-clause-cells
returns-clause-cells g c =
    let own = made g (goal.at.returns-clause-cells g c).In_ok-organism in
    on_ok_weaker c.put_over.result (λ came. ap (λ (s : SceneValue). s.cells) came
    ∙ (λ i. set (c.in_ok-number.ensures.scene i).cells c.args.resident.now.cell
    (Some (record { id = c.args.resident.now.id; organism = own i })))) c.put_over.ensures

pub returns-clause-past : goal.returns-clause-past
returns-clause-past g c =
    let before = c.in_ok-number.ensures.scene in
    on_ok_weaker c.put_over.result (λ came. record {
      update = ap (λ (s : SceneValue). s.update) came ∙ ap (λ (s : SceneValue). s.update) before;
      everyone =
          ap (λ (s : SceneValue). s.everyone) came ∙ ap (λ (s : SceneValue). s.everyone) before;
      first = ap (λ (s : SceneValue). s.first) came ∙ ap (λ (s : SceneValue). s.first) before;
    }) c.put_over.ensures
