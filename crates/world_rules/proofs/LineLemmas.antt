-- Lines of descent, by the place of an organism in the list of all.
use Rattle.std.proofs.Common.{◌≡◌, ◌∙◌, refl, sym, ap, subst, ℕ, zero, suc, ◌+◌, ◌<◌, List, [], ◌∷◌, ◌++◌, length, get_or, fold, Option, None, Some, arith, length-append}
use Rattle.std.specs.Prelude.{slice_get}
use Rattle.world_rules.proofs.Prelude.{Link, line_of_parent, with_descent_line, descent_lines_of, descent_line_of, IsBelow, AreNumbered}
use Rattle.std.proofs.Math.ListN.{get_or-append}
use Rattle.std.proofs.Math.Seq.{get_or-append_seam}

-- with one organism more there is one line more
length-with_line : (lines : List (List Link)) (link : Link)
    → length (with_descent_line lines link) ≡ length lines + 1
length-with_line lines link =
    length-append lines ((line_of_parent lines link.parent ++ link ∷ []) ∷ [])

-- lines that are there stay
line_kept : (lines : List (List Link)) (links : List Link) (id : ℕ) → id < length lines
    → get_or (fold with_descent_line lines links) id [] ≡ get_or lines id []
line_kept lines [] id within = refl
line_kept lines (link ∷ links) id within =
    line_kept (with_descent_line lines link) links id
    (omega (arith, within, length-with_line lines link))
    ∙ get_or-append lines ((line_of_parent lines link.parent ++ link ∷ []) ∷ []) [] id within

-- so does the line of a parent that is there, or of none
parent_kept : (lines : List (List Link)) (links : List Link) (parent : Option ℕ)
    → IsBelow (length lines) parent
    → line_of_parent (fold with_descent_line lines links) parent ≡ line_of_parent lines parent
parent_kept lines links None below = refl
parent_kept lines links (Some parent) below = line_kept lines links parent below

-- the line of an organism is that of its parent, and itself
line_there : (lines : List (List Link)) (links : List Link) (place : ℕ) (link : Link)
    → slice_get links place ≡ Some link → IsBelow (length lines + place) link.parent
    → get_or (fold with_descent_line lines links) (length lines + place) []
    ≡ line_of_parent (fold with_descent_line lines links) link.parent ++ link ∷ []
line_there lines [] place link there below = absurd cc
line_there lines (first ∷ links) zero link there below =
    let same : first ≡ link = cc in
    let none : length lines + 0 ≡ length lines = omega arith in
    let parent : IsBelow (length lines) link.parent =
    subst (λ n. IsBelow n link.parent) none below in
    rw (
      same,
      none,
      line_kept (with_descent_line lines link) links (length lines)
          (omega (arith, length-with_line lines link)),
      parent_kept lines (link ∷ links) link.parent parent,
    ) (get_or-append_seam lines (line_of_parent lines link.parent ++ link ∷ []) [] [])
line_there lines (first ∷ links) (suc place) link there below =
    let next : length lines + suc place ≡ length (with_descent_line lines first) + place =
    omega (arith, length-with_line lines first) in
    rw next (line_there (with_descent_line lines first) links place link there (rw next at below))

-- so it is for each id of a numbered list
pub line_of_each : (everyone : List Link) (id : ℕ) (link : Link) → AreNumbered everyone
    → slice_get everyone id ≡ Some link
    → descent_line_of everyone id ≡ line_of_parent (descent_lines_of everyone) link.parent ++ link
    ∷ []
unfolding descent_lines_of
line_of_each everyone id link are there =
    let place : 0 + id ≡ id = omega arith in
    let below : IsBelow (0 + id) link.parent =
    subst (λ n. IsBelow n link.parent) (sym place) (are id link there).parent in
    ap (λ n. get_or (fold with_descent_line [] everyone) n []) (sym place)
    ∙ line_there [] everyone id link there below
