use Rattle.std.proofs.Common.{◌≡◌, ◌∙◌, ap, get_or, subst, sym, ℕ, ◌+◌, ◌++◌, [], ◌∷◌, List, length, take, fold, arith, rules}
use Rattle.world_core.proofs.Prelude.{scan, into_iter_items, into_iter_len, into_iter_steps, length-map, length_push, take_all, fold_more, get_or-zip, length-zip, YieldsList, YieldsList-from_zip, zips, Placing, lines_text, line_text, values_of, birth_line, Scene, Delivery, after_births, placings_of, turns_of, with_newborn, IsDelivery, genomes_ever, scene_in, deliveries_in, delivery_at, delivery_from, Delivered}
use Rattle.std.specs.Iterator.Adapters.{zip_first, zip_second}
use Rattle.std.proofs.lemmas.Iterator.Adapters.{YieldsList-from_vec}
use Rattle.std.proofs.lemmas.Iterator.Consumers.{YieldsList-turn, YieldsList-end}
use Rattle.world_core.proofs.BirthLemmas.{genomes-beside, placed-genomes, yields-made}
use Rattle.world_core.proofs.ScanLemmas.{lines-step}
use Rattle.world_core.proofs.births.place_births.Goals.{After-into_iter-newborn-iterator}
use Rattle.world_core.proofs.births.place_births.Goals as goal

-- the placings are those of the births
found : (c : After-into_iter-newborn-iterator) → c.into_vec.result.items
    ≡ placings_of (values_of c.args.config.now) (scene_in c.args.scene.now)
    (deliveries_in c.args.lived)
found c = c.into_vec.ensures ∙ c.in_ok-placings.ensures.placings

-- the loop goes over each newborn with its placing
road : (c : After-into_iter-newborn-iterator)
    → YieldsList {B = Delivery × Placing} (zips into_iter_steps into_iter_steps)
    (λ turn. (delivery_at c.args.lived.ids.items turn.0, turn.1))
    c.into_iter-newborn-iterator.result
    (turns_of (values_of c.args.config.now) (scene_in c.args.scene.now)
    (deliveries_in c.args.lived))
road c =
    let births = c.args.lived.born.items in
    let placings = placings_of (values_of c.args.config.now) (scene_in c.args.scene.now)
    (deliveries_in c.args.lived) in
    let same = c.into_iter-newborn-iterator.ensures.into_iter_gives in
    let zipped = c.zip-newborn-items.ensures in
    YieldsList-from_zip {s = c.into_iter-newborn-iterator.result}
    (yields-made (delivery_at c.args.lived.ids.items) births
    (ap (λ s. into_iter_items (zip_first s)) same ∙ ap into_iter_items zipped.first
    ∙ c.into_iter.ensures.rest)
    (search rules))
    (YieldsList-from_vec placings
    (ap (λ s. into_iter_items (zip_second s)) same ∙ zipped.second.0 ∙ found c)
    (ap (λ s. into_iter_len (zip_second s)) same ∙ zipped.second.1 ∙ c.into_vec.result.ok.0
    ∙ ap length (found c)))

pub place_newborn-requires-clause-birth : goal.place_newborn-requires-clause-birth
place_newborn-requires-clause-birth c =
    let config = values_of c.args.config.now in
    let births = deliveries_in c.args.lived in
    let placings = placings_of config (scene_in c.args.scene.now) births in
    let n = length c.loop-newborn.yielded in
    let newborn = c.in-Some.newborn in
    let parent = c.id_in-parent.ensures
    ∙ ap (λ (ids : List ℕ). get_or ids newborn.cell 0) c.deref.ensures.value in
    let birth = delivery_at c.args.lived.ids.items newborn in
    let here = YieldsList-turn
    (road (goal.at.place_newborn-requires-clause-birth c).After-into_iter-newborn-iterator)
    c.loop-newborn.yielded c.loop-newborn.newborn-iterator c.loop-newborn.yielded_by c.next.result
    c.next.new.self (newborn, c.in-Some.placing) c.in-Some.is c.next.ensures.steps in
    let many = length-zip births placings in
    let is : birth ≡ get_or births n birth =
    ap (λ (pair : Delivery × Placing). pair.0)
    (here.1 ∙ get_or-zip births placings n (birth, c.in-Some.placing)
    (omega (arith, here.0, many)) (omega (arith, here.0, many))) in
    subst (λ p. IsDelivery config (length c.loop-newborn.scene.cells) (delivery_from p newborn))
    (sym parent)
    (subst (λ cells. IsDelivery config cells birth) (sym c.loop-newborn.invariant.size)
    (subst (IsDelivery config (length c.args.scene.now.cells)) (sym is)
    (c.requires.births.each n birth (omega (arith, here.0, many)))))

pub loop-newborn-preserved : goal.loop-newborn-preserved
loop-newborn-preserved c =
    let config = values_of c.args.config.now in
    let first = scene_in c.args.scene.now in
    let turns = turns_of config first (deliveries_in c.args.lived) in
    let so_far = c.loop-newborn.yielded in
    let n = length so_far in
    let newborn = c.in-Some.newborn in
    let placing = c.in-Some.placing in
    let pair : Delivered × Placing = (newborn, placing) in
    let turn : Delivery × Placing = (delivery_at c.args.lived.ids.items newborn, placing) in
    let parent = c.id_in-parent.ensures
    ∙ ap (λ (ids : List ℕ). get_or ids newborn.cell 0) c.deref.ensures.value in
    let before = c.loop-newborn.invariant in
    let told = c.in_ok-place_newborn.ensures in
    let here = YieldsList-turn
    (road (goal.at.loop-newborn-preserved c).After-into_iter-newborn-iterator) so_far
    c.loop-newborn.newborn-iterator c.loop-newborn.yielded_by c.next.result c.next.new.self pair
    c.in-Some.is c.next.ensures.steps in
    let long : length (so_far ++ pair ∷ []) ≡ n + 1 = length_push so_far pair in
    let scene = scene_in c.loop-newborn.scene in
    record {
      scene = rw long (told.scene
          ∙ ap (λ p. with_newborn config scene (delivery_from p newborn, placing)) parent
          ∙ ap (λ s. with_newborn config s turn) before.scene
          ∙ ap (with_newborn config (fold (with_newborn config) first (take n turns))) here.1
          ∙ sym (fold_more (with_newborn config) first turns n turn here.0));
      text = rw long (lines-step (with_newborn config) line_text first turns n turn here.0
          c.args.text.now.items birth_line before.scene before.text (told.text
          ∙ ap (λ p. c.loop-newborn.text.items
          ++ line_text (birth_line scene (delivery_from p newborn, placing))) parent
          ∙ ap (λ (t : Delivery × Placing). c.loop-newborn.text.items
          ++ line_text (birth_line scene t)) here.1));
      bank = told.grown.3 ∙ before.bank;
      size = told.grown.0 ∙ before.size;
      everyone = omega (arith, long, told.grown.1, before.everyone);
      first = told.grown.2 ∙ before.first;
    }

pub returns : goal.returns
unfolding after_births
returns c =
    let config = values_of c.args.config.now in
    let first = scene_in c.args.scene.now in
    let lived = c.args.lived in
    let placings = placings_of config first (deliveries_in lived) in
    let turns = turns_of config first (deliveries_in lived) in
    let so_far = c.loop-newborn.yielded in
    let at = (goal.at.returns c).After-into_iter-newborn-iterator in
    let whole = YieldsList-end (road at) so_far c.loop-newborn.newborn-iterator c.loop-newborn.yielded_by
    c.next.result c.next.new.self c.in-None.is c.next.ensures.steps in
    let all : take (length so_far) turns ≡ turns =
    take_all (length so_far) turns (omega (arith, whole.1)) in
    let scene = c.loop-newborn.invariant.scene ∙ ap (fold (with_newborn config) first) all in
    record {
      scene = scene;
      text = c.loop-newborn.invariant.text
          ∙ ap (λ (done : List (Delivery × Placing)). c.args.text.now.items
          ++ lines_text (scan (with_newborn config) birth_line first done)) all;
      grown = (
        c.loop-newborn.invariant.size,
        omega (
          arith,
          c.loop-newborn.invariant.everyone,
          whole.1,
          length-zip (deliveries_in lived) placings,
          length-map lived.born.items (delivery_at lived.ids.items),
          c.in_ok-placings.ensures.count,
          ap length (found at),
          ap length c.into_vec.ensures,
        ),
        c.loop-newborn.invariant.first,
        c.loop-newborn.invariant.bank,
        ap (λ (s : Scene). genomes_ever s.everyone) scene
            ∙ placed-genomes config first turns
            ∙ ap (λ gs. genomes_ever first.everyone ++ gs)
            (genomes-beside lived placings
            (sym (ap length (found at)) ∙ ap length c.into_vec.ensures
            ∙ c.in_ok-placings.ensures.count)),
      );
    }
