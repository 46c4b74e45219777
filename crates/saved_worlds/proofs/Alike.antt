-- Scenes that differ in nothing but what is told of those that ever were.
use Rattle.std.proofs.Common.{◌≡◌, ℕ, List, [], ◌∷◌, ◌++◌, length, refl, sym, subst, ◌∙◌, length-append}
use Rattle.std.specs.Prelude.{fold}
use Rattle.saved_worlds.proofs.Prelude.{scan, OrganismState, ConfigValues, id_at, Scene, next_id, with_death, with_deaths, with_newcomer, CellLife, Delivery, deaths_of, after_burials, birth_link, child_of_birth, placings_of, with_newborn, turns_of, after_births, death_line, death_lines, birth_line, birth_lines, head_at, config_of_head}
use Rattle.std.specs.Option.{option_to_list}
use Rattle.birth_board.specs.declared.placing.Placing.{Placing}
use Rattle.lineage_log.specs.Ancestry.{Link}
use Rattle.world_rules.specs.Statistics.{scene_stats}

-- both are of this update, and agree in cells, in those that died, and in how many ever were
pub record Alike (update : ℕ) (a b : Scene) : Type 0 where
  pub here : a.update ≡ update
  pub there : b.update ≡ update
  pub cells : a.cells ≡ b.cells
  pub gone : a.gone ≡ b.gone
  pub count : length a.everyone ≡ length b.everyone

module _ (u : ℕ) where
  -- both are of one update
  same_update : (a b : Scene) → Alike u a b → a.update ≡ b.update
  same_update a b h = h.here ∙ sym h.there

  -- those that died, with who stands in a cell
  gone_same : {a b : Scene} (cell : ℕ) → Alike u a b
      → a.gone ++ option_to_list (id_at a.cells cell) ≡ b.gone
      ++ option_to_list (id_at b.cells cell)
  gone_same cell h = rw (h.gone, h.cells) refl

  -- the same death
  death_alike : (a b : Scene) (cell : ℕ) → Alike u a b
      → Alike u (with_death a cell) (with_death b cell)
  unfolding with_death
  death_alike a b cell h = record {
    here = h.here;
    there = h.there;
    cells = rw h.cells refl;
    gone = gone_same cell h;
    count = h.count;
  }

  -- the same deaths
  pub deaths_alike : (cells : List ℕ) (a b : Scene) → Alike u a b
      → Alike u (with_deaths a cells) (with_deaths b cells)
  deaths_alike [] a b h = h
  deaths_alike (cell ∷ cells) a b h =
      deaths_alike cells (with_death a cell) (with_death b cell) (death_alike a b cell h)

  -- and their lines
  death_line_same : (a b : Scene) (cell : ℕ) → Alike u a b → death_line a cell ≡ death_line b cell
  death_line_same a b cell h = rw (same_update a b h, h.cells) refl

  -- at each of these cells the same line, or none
  death_lines_scan : (cells : List ℕ) (a b : Scene) → Alike u a b
      → scan with_death death_line a cells ≡ scan with_death death_line b cells
  death_lines_scan [] a b h = refl
  death_lines_scan (cell ∷ cells) a b h =
      let first = death_line_same a b cell h in
      let rest = death_lines_scan cells _ _ (death_alike a b cell h) in cc

  -- the same lines of deaths
  pub death_lines_same : (cells : List ℕ) (a b : Scene) → Alike u a b
      → death_lines a cells ≡ death_lines b cells
  death_lines_same cells a b h = rw (death_lines_scan cells a b h) refl

  -- the same burials
  pub burials_alike : (lives : List CellLife) (a b : Scene) → Alike u a b
      → Alike u (after_burials a lives) (after_burials b lives)
  unfolding after_burials
  burials_alike lives a b h = deaths_alike (deaths_of lives) a b h

  -- the same newcomer
  newcomer_alike : (a b : Scene) (link : Link) (o : OrganismState) → Alike u a b
      → Alike u (with_newcomer a link o) (with_newcomer b link o)
  unfolding with_newcomer
  newcomer_alike a b link o h = record {
    here = h.here;
    there = h.there;
    cells = rw h.cells refl;
    gone = gone_same link.cell h;
    count = simp length-append (rw h.count refl);
  }

  module _ (config : ConfigValues) (update id : ℕ) where
    -- the head of the configuration, as a configuration
    abbrev headed : ConfigValues
    headed = config_of_head (head_at config update id)

    -- the same newborn
    link_same : (a b : Scene) (d : Delivery) (cell : ℕ) → Alike u a b
        → birth_link (next_id a) a.update d cell ≡ birth_link (next_id b) b.update d cell
    link_same a b d cell h = rw (h.count, same_update a b h) refl

    -- the same birth
    newborn_alike : (a b : Scene) (turn : Delivery × Placing) → Alike u a b
        → Alike u (with_newborn headed a turn) (with_newborn config b turn)
    unfolding with_newborn
    newborn_alike a b turn h =
        let o = child_of_birth config turn.0 turn.1 in
        let link = birth_link (next_id b) b.update turn.0 turn.1.cell in
        subst (λ (l : Link). Alike u (with_newcomer a l o) (with_newcomer b link o))
        (sym (link_same a b turn.0 turn.1.cell h)) (newcomer_alike a b link o h)

    -- the same births with given placings
    newborns_alike : (turns : List (Delivery × Placing)) (a b : Scene) → Alike u a b
        → Alike u (fold (with_newborn headed) a turns) (fold (with_newborn config) b turns)
    newborns_alike [] a b h = h
    newborns_alike (turn ∷ turns) a b h =
        newborns_alike turns (with_newborn headed a turn) (with_newborn config b turn)
        (newborn_alike a b turn h)

    -- the same placings
    placings_same : (births : List Delivery) (a b : Scene) → Alike u a b
        → placings_of headed a births ≡ placings_of config b births
    unfolding placings_of
    placings_same births a b h = cc (same_update a b h, h.count, h.cells)

    -- the same newborns with their placings
    turns_same : (births : List Delivery) (a b : Scene) → Alike u a b
        → turns_of headed a births ≡ turns_of config b births
    turns_same births a b h = rw (placings_same births a b h) refl

    -- the same births
    pub births_alike : (births : List Delivery) (a b : Scene) → Alike u a b
        → Alike u (after_births headed a births) (after_births config b births)
    unfolding after_births
    births_alike births a b h =
        subst (λ (turns : List (Delivery × Placing)). Alike u (fold (with_newborn headed) a turns)
        (fold (with_newborn config) b (turns_of config b births)))
        (sym (turns_same births a b h)) (newborns_alike (turns_of config b births) a b h)

    -- and their lines
    birth_line_same : (a b : Scene) (turn : Delivery × Placing) → Alike u a b
        → birth_line a turn ≡ birth_line b turn
    birth_line_same a b turn h = rw (h.count, same_update a b h, h.cells) refl

    -- the same line of each newborn with its placing
    birth_lines_scan : (turns : List (Delivery × Placing)) (a b : Scene) → Alike u a b
        → scan (with_newborn headed) birth_line a turns
        ≡ scan (with_newborn config) birth_line b turns
    birth_lines_scan [] a b h = refl
    birth_lines_scan (turn ∷ turns) a b h =
        let first = birth_line_same a b turn h in
        let rest = birth_lines_scan turns _ _ (newborn_alike a b turn h) in cc

    -- the same lines of births
    pub birth_lines_same : (births : List Delivery) (a b : Scene) → Alike u a b
        → birth_lines headed a births ≡ birth_lines config b births
    birth_lines_same births a b h =
        subst (λ (turns : List (Delivery × Placing)). scan (with_newborn headed) birth_line a turns
        ≡ birth_lines config b births) (sym (turns_same births a b h))
        (birth_lines_scan (turns_of config b births) a b h)

  -- the same counts
  pub stats_same : (a b : Scene) (births : ℕ) → Alike u a b
      → scene_stats a births ≡ scene_stats b births
  stats_same a b births h = rw (same_update a b h, h.cells, h.gone) refl
