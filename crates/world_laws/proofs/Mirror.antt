-- What the order's reader knows of a world within an update, and what a replay has seen of it.
use Rattle.std.proofs.Common.{◌≡◌, ℕ, List, [], ◌∷◌, ◌++◌, map, length, drop, Option, Some, Ok, Err, refl, ap, ◌∙◌}
use Rattle.world_laws.proofs.Prelude.{Letter, Line, Stage, Quiet, LogPlace, Within, told, told_all, and_on, Reader, Seen, seen_on, seen_all, Link, Occupant, ids_of, Scene, People, genomes_ever}

-- the genome in a link
abbrev pub written : Link → Option (List Letter)
written link = Some link.genome

-- the genomes that a reader keeps: those of the start, and those of all who came since
abbrev pub people_in : People → List Link → People
people_in start everyone = start ++ map written (drop (length start) everyone)

-- the reader within an update
abbrev pub mirror : People → Stage → ℕ → Scene → Reader
mirror start stage births scene = record {
  version = 2;
  due = scene.update;
  stage = stage;
  standing = ids_of scene.cells;
  people = people_in start scene.everyone;
  newest = length start;
  leaving = scene.gone;
  births = births;
}

-- the reader between two updates
abbrev pub between : People → ℕ → List (Option Occupant) → Reader
between start due cells = record {
  version = 2;
  due = due;
  stage = Quiet;
  standing = ids_of cells;
  people = start;
  newest = length start;
  leaving = [];
  births = 0;
}

-- what a replay has seen of a world
abbrev pub seen_in : List (Option Occupant) → List Link → Seen
seen_in cells everyone = record { standing = ids_of cells; genomes = genomes_ever everyone }

-- these lines take the reader and the replay on
pub record Tells (before : LogPlace) (early : Seen) (lines : List Line) (after : LogPlace)
    (later : Seen) : Type 0 where
  pub told : told_all before lines ≡ Ok after
  pub seen : seen_all early lines ≡ later

-- the same, within an update
abbrev pub Passes : People → Stage → ℕ → Scene → List Line → Stage → ℕ → Scene → Type 0
Passes start stage births scene lines later more next =
    Tells (Within (mirror start stage births scene)) (seen_in scene.cells scene.everyone) lines
    (Within (mirror start later more next)) (seen_in next.cells next.everyone)

-- once lines lead to a place, they and others are told as the others from there
told_more : (p : LogPlace) (xs ys : List Line) (q : LogPlace) → told_all p xs ≡ Ok q
    → told_all p (xs ++ ys) ≡ told_all q ys
told_more p [] ys q e = let same : p ≡ q = cc in rw same refl
told_more p (x ∷ xs) ys q e =
    elim (told p x) as (λ r. and_on r (λ next. told_all next xs) ≡ Ok q
    → and_on r (λ next. told_all next (xs ++ ys)) ≡ told_all q ys)
    [ Ok next ↦ λ h. told_more next xs ys q h | Err reason ↦ λ h. absurd cc ] e

-- a replay of lines and then others is one of the others after the first
seen_more : (s : Seen) (xs ys : List Line) → seen_all s (xs ++ ys) ≡ seen_all (seen_all s xs) ys
seen_more s [] ys = refl
seen_more s (x ∷ xs) ys = seen_more (seen_on s x) xs ys

-- no lines leave the reader and the replay as they are
pub no_lines : (p : LogPlace) (s : Seen) → Tells p s [] p s
no_lines p s = record { told = refl; seen = refl }

-- one line takes them on to what it is told and seen as
pub one_line : (p : LogPlace) (s : Seen) (line : Line) (q : LogPlace) (t : Seen)
    → told p line ≡ Ok q
    → seen_on s line ≡ t → Tells p s (line ∷ []) q t
one_line p s line q t e f = record { told = rw e refl; seen = f }

-- lines, and others from where they ended, take them on together
pub more_lines : {p q o : LogPlace} {s t v : Seen} (xs ys : List Line) → Tells p s xs q t
    → Tells q t ys o v → Tells p s (xs ++ ys) o v
more_lines {p} {q} {o} {s} {t} {v} xs ys first second = record {
  told = told_more p xs ys q first.told ∙ second.told;
  seen = seen_more s xs ys ∙ ap (λ x. seen_all x ys) first.seen ∙ second.seen;
}
