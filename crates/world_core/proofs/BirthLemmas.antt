-- The newborns of an update, each with its placing.
use Rattle.std.proofs.Common.{◌≡◌, ◌∙◌, ap, sym, List, [], ◌∷◌, ◌++◌, append-nil, append_assoc, arith, fold, length, map}
use Rattle.world_core.proofs.Prelude.{zip, into_iter_items, into_iter_len, into_iter_steps, YieldsList, length-map, map_push, firsts-zip, Placing, genome_in, Link, ConfigValues, Scene, with_newcomer, Delivery, with_newborn, genomes_ever, deliveries_in, delivery_at, Lived}
use Rattle.std.proofs.lemmas.Iterator.Splits.{YieldsList-from_shown_while}
use Rattle.world_core.proofs.BirthOrderLemmas.{map-both}

-- an iterator over a list gives what is made of each of its items
pub yields-made : {A B Z : Type 0} (made : A → B) {s : _} (xs : List A) → into_iter_items s ≡ xs
    → into_iter_len s ≡ length xs
    → YieldsList (into_iter_steps {X = A} {Z = Z}) made s (map made xs)
yields-made {A = A} {Z = Z} made {s} xs items len =
    rw (← items)
    (YieldsList-from_shown_while (into_iter_steps {X = A} {Z = Z}) made
    (λ u. map made (into_iter_items u)) (λ u. into_iter_len u ≡ length (into_iter_items u))
    (λ u t whole none. omega (arith, length-map (into_iter_items u) made, whole, none.0))
    (λ u x t whole next. (omega (arith, whole, next.1, ap length next.0), ap (map made) next.0)) s
    (len ∙ ap length (sym items)))

-- a newborn more
newborn-genomes : (config : ConfigValues) (scene : Scene) (turn : Delivery × Placing)
    → genomes_ever (with_newborn config scene turn).everyone ≡ genomes_ever scene.everyone
    ++ turn.0.newborn.genome ∷ []
unfolding with_newborn with_newcomer
newborn-genomes config scene turn = map_push (λ (l : Link). l.genome) scene.everyone _

-- the genomes of all organisms once these newborns are placed
pub placed-genomes : (config : ConfigValues) (scene : Scene) (turns : List (Delivery × Placing))
    → genomes_ever (fold (with_newborn config) scene turns).everyone ≡ genomes_ever scene.everyone
    ++ map (λ turn. turn.0.newborn.genome) turns
placed-genomes config scene [] = sym (append-nil (genomes_ever scene.everyone))
placed-genomes config scene (turn ∷ turns) =
    placed-genomes config (with_newborn config scene turn) turns
    ∙ rw (newborn-genomes config scene turn, append_assoc)

-- the genomes of newborns beside as many placings
pub genomes-beside : (lived : Lived) (placings : List Placing)
    → length placings ≡ length lived.born.items
    → map (λ (turn : Delivery × Placing). turn.0.newborn.genome)
    (zip (deliveries_in lived) placings) ≡ map genome_in lived.born.items
genomes-beside lived placings long =
    sym (map-both (λ (turn : Delivery × Placing). turn.0) (λ d. d.newborn.genome)
    (zip (deliveries_in lived) placings))
    ∙ ap (map (λ d. d.newborn.genome))
    (firsts-zip (deliveries_in lived) placings
    (long ∙ sym (length-map lived.born.items (delivery_at lived.ids.items))))
    ∙ map-both (delivery_at lived.ids.items) (λ d. d.newborn.genome) lived.born.items
