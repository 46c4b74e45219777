-- What holds of the lines of those who leave their cells one after another, by death or by an event.
use Rattle.std.proofs.Common.{◌≡◌, ℕ, List, [], ◌∷◌, Option, Some, None, refl}
use Rattle.std.specs.Prelude.{option_map}
use Rattle.world_laws.proofs.Prelude.{AllByRecursion, filter_map, cons_option, scan, Line, Scene, standing_at, with_death}

module _ (P : Line → Type 0) (line_of : Scene → ℕ → ℕ → Line) (Keeps : Scene → Type 0)
    (next : (scene : Scene) (cell : ℕ) → Keeps scene → Keeps (with_death scene cell))
    (holds : (scene : Scene) (cell id : ℕ) → Keeps scene → standing_at scene cell ≡ Some id
    → P (line_of scene cell id)) where
  -- with the line of one more, or none, it holds of all
  first_holds : (scene : Scene) (cell : ℕ) (slot : Option ℕ) (others : List Line) → Keeps scene
      → standing_at scene cell ≡ slot → AllByRecursion P others
      → AllByRecursion P (cons_option (option_map (line_of scene cell) slot) others)
  first_holds scene cell None others keeps is rest = rest
  first_holds scene cell (Some id) others keeps is rest = (holds scene cell id keeps is, rest)

  -- it holds of the lines of all who leave these cells
  pub leaving_lines : (scene : Scene) (cells : List ℕ) → Keeps scene
      → AllByRecursion P (filter_map (λ line. line) (scan with_death
      (λ s cell. option_map (line_of s cell) (standing_at s cell)) scene cells))
  leaving_lines scene [] keeps = tt
  leaving_lines scene (cell ∷ cells) keeps =
      first_holds scene cell (standing_at scene cell) _ keeps refl
      (leaving_lines (with_death scene cell) cells (next scene cell keeps))
