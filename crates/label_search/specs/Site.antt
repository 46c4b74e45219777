-- The places of memory, and how a `Site` is packed into two bytes (docs/MACHINE.md, "The machine").
use Rattle.std.specs.Prelude.{Bool, List, map, ◌≡◌, ℕ, ◌+◌, ◌/◌, ◌%◌, ◌==◌, unwrap_or, if◌then◌else◌}
use Rattle.instruction_set.specs.declared.letter.Letter.{Letter}
use Rattle.instruction_set.specs.declared.letter.Letter.TheVariants.{NopA}
use Rattle.instruction_set.specs.Letter.{index_of, letter_at}
use Rattle.label_search.specs.declared.site.Site.TheInside.{Inside}

-- what a place holds
pub record Site : Type 0 where
  pub letter : Letter
  -- what was copied there, before any copy error
  pub clean : Letter
  pub executed : Bool
  pub copied : Bool

-- the letters of some sites
abbrev pub letters_of : List Site → List Letter
letters_of sites = map (λ site. site.letter) sites

-- a clean letter and two marks in one number
abbrev pub rest_of : Letter → Bool → Bool → ℕ
rest_of clean executed copied =
    index_of clean + (if executed then 32 else 0) + (if copied then 64 else 0)

-- the clean letter of a number
abbrev pub clean_in : ℕ → Letter
clean_in rest = unwrap_or (letter_at (rest % 32)) NopA

-- whether a number has the mark of an executed place
abbrev pub executed_in : ℕ → Bool
executed_in rest = rest / 32 % 2 == 1

-- whether a number has the mark of a place that was copied to
abbrev pub copied_in : ℕ → Bool
copied_in rest = rest / 64 % 2 == 1

-- the number has a letter and two marks, and nothing else
abbrev pub IsRest : ℕ → Type 0
IsRest rest = rest ≡ rest_of (clean_in rest) (executed_in rest) (copied_in rest)

-- what two bytes hold
abbrev pub place_of : Inside → Site
place_of site = record {
  letter = site.letter;
  clean = clean_in site.rest;
  executed = executed_in site.rest;
  copied = copied_in site.rest;
}
