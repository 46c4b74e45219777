-- Each of a line of descent but the first is made of the one before it.
use Rattle.std.proofs.Common.{◌≡◌, ℕ, zero, suc, ◌<◌, List, [], ◌∷◌, ◌++◌, map, Option, Some, None, refl, sym, ap, ◌∙◌, arith}
use Rattle.std.specs.Prelude.{slice_get, option_map, IfSome}
use Rattle.world_laws.proofs.Prelude.{get_or_from_slice_get, slice_get-map, Link, ConfigValues, Occupant, World, id_at, world_after, descent_line_of, line_of_parent, descent_lines_of, line_in, IsBelow, AreNumbered, IsChildOf, ComesFrom, AreDescended, IsDescent, IsLastOfLine, LifeLaws, LineLaws, IsConfig}
use Rattle.world_laws.proofs.Mirror.{written}
use Rattle.world_laws.proofs.Scenes.{Known, Stands, who_stands}
use Rattle.world_laws.proofs.Updates.{written_there}
use Rattle.world_laws.proofs.WholeLogs.{run_after}
use Rattle.world_laws.proofs.Descents.{descended_after}

-- a line goes on with a child of its last
descent_more : (front : List Link) (last link : Link) → IsDescent (front ++ last ∷ [])
    → IsChildOf last link → IsDescent ((front ++ last ∷ []) ++ link ∷ [])
descent_more [] last link is child = (child, tt)
descent_more (x ∷ []) last link is child = (is.0, (child, tt))
descent_more (x ∷ y ∷ front) last link is child =
    (is.0, descent_more (y ∷ front) last link is.1 child)

module _ (laws : LineLaws) (everyone : List Link) (are : AreNumbered everyone)
    (descended : AreDescended everyone) where
  -- the line of a parent, and then its child, descends, where those of lower ids do
  descent_from : (link : Link) (parent : Option ℕ) (bound : ℕ) → IsBelow bound parent
      → ComesFrom everyone parent link
      → ((p : ℕ) (before : Link) → p < bound → slice_get everyone p ≡ Some before
      → IsDescent (descent_line_of everyone p))
      → IsDescent (line_of_parent (descent_lines_of everyone) parent ++ link ∷ [])
  descent_from link None bound below comes earlier = tt
  descent_from link (Some p) bound below comes earlier =
      let before = comes.0 in
      let line = laws.line everyone p before are comes.1 in
      let first = earlier p before below comes.1 in
      let front = line_of_parent (descent_lines_of everyone) before.parent in
      rw line (descent_more front before link (rw line at first) comes.2)

  -- the line of each id below a bound descends
  descent_below : (bound id : ℕ) (link : Link) → id < bound → slice_get everyone id ≡ Some link
      → IsDescent (descent_line_of everyone id)
  descent_below zero id link h e = absurd (omega (arith, h))
  descent_below (suc bound) id link h e =
      let numbered = are id link e in
      rw (laws.line everyone id link are e)
      (descent_from link link.parent id numbered.parent (descended id link e)
      (λ p before low there. descent_below bound p before (omega (arith, low, h)) there))

  -- the line of each who ever was descends
  descent_of : (id : ℕ) (link : Link) → slice_get everyone id ≡ Some link
      → IsDescent (descent_line_of everyone id)
  descent_of id link e = let low : id < suc id = omega arith in descent_below (suc id) id link low e

-- the line of who stands in a cell, if somebody does, descends
descent_in : (laws : LineLaws) (w : World) → AreNumbered w.everyone → AreDescended w.everyone
    → Known (map written w.everyone) w.cells → (cell : ℕ) (slot : Option ℕ)
    → id_at w.cells cell ≡ slot → IfSome (option_map (descent_line_of w.everyone) slot) IsDescent
descent_in laws w are descended known cell None e = tt
descent_in laws w are descended known cell (Some id) e =
    let who = who_stands w.cells cell id e in
    let o : Occupant = who.0 in
    let wrote = sym (slice_get-map written w.everyone o.id) ∙ known cell o who.1 in
    let found = written_there (slice_get w.everyone o.id) o.organism.genome wrote in
    descent_of laws w.everyone are descended id found.0
    (ap (slice_get w.everyone) (sym who.2) ∙ found.1)

-- the line of who stands in a cell of a run's world
pub line_descends : (laws : LineLaws) (lives : LifeLaws) (config : ConfigValues) → IsConfig config
    → (n cell : ℕ) → IfSome (line_in (world_after config n) cell) IsDescent
unfolding line_in
line_descends laws lives config fit n cell =
    let w = world_after config n in
    descent_in laws w (laws.numbered config n).everyone (descended_after lives config fit n)
    (run_after lives config fit n).world.kept cell (id_at w.cells cell) refl

-- the line of who stands in a cell ends with its own record, which has its genome
last_in : (laws : LineLaws) (w : World) → AreNumbered w.everyone
    → Known (map written w.everyone) w.cells → (cell : ℕ) (o : Occupant) → Stands w.cells cell o
    → IsLastOfLine w cell o
unfolding line_in
last_in laws w are known cell o stands =
    let wrote = sym (slice_get-map written w.everyone o.id) ∙ known cell o stands in
    let found = written_there (slice_get w.everyone o.id) o.organism.genome wrote in
    let line = laws.line w.everyone o.id found.0 are found.1 in
    record {
      last = found.0;
      recorded = found.1;
      genome = found.2;
      before = line_of_parent (descent_lines_of w.everyone) found.0.parent;
      line = rw (get_or_from_slice_get w.cells cell (Some o) None stands, line) refl;
    }

-- who stands in a cell of a run's world
pub line_ends : (laws : LineLaws) (lives : LifeLaws) (config : ConfigValues) → IsConfig config
    → (n cell : ℕ) (o : Occupant) → Stands (world_after config n).cells cell o
    → IsLastOfLine (world_after config n) cell o
line_ends laws lives config fit n cell o stands =
    last_in laws (world_after config n) (laws.numbered config n).everyone
    (run_after lives config fit n).world.kept cell o stands
