-- The rates of errors and the limits of length as numbers, and the names of the rates
-- (docs/WORLD.md, "Records of birth"; docs/FORMATS.md, "The configuration" and "The log").
use Rattle.std.specs.Prelude.{ℕ, List, [], ◌∷◌, codes, find, Option}
use Rattle.mutations.specs.declared.rates.Rates.{Rates}
use Rattle.mutations.specs.declared.limits.Limits.{Limits}
use Rattle.std.specs.Str.{bytes_eq}
use Rattle.mutations.specs.declared.rate_name.RateName.{RateName}
use Rattle.mutations.specs.declared.rate_name.RateName.TheVariants.{Copy, Insert, Delete, SitePoint, SiteInsert, SiteDelete}

-- the six rates
pub record RateNumbers : Type 0 where
  pub copy : ℕ
  pub insert : ℕ
  pub delete : ℕ
  pub site_point : ℕ
  pub site_insert : ℕ
  pub site_delete : ℕ

-- the numbers of some rates
abbrev pub numbers_of : Rates → RateNumbers
numbers_of rates = record {
  copy = rates.copy;
  insert = rates.insert;
  delete = rates.delete;
  site_point = rates.site_point;
  site_insert = rates.site_insert;
  site_delete = rates.site_delete;
}

-- the least and the greatest length
pub record LengthRange : Type 0 where
  pub least : ℕ
  pub greatest : ℕ

-- the range of some limits
abbrev pub range_of : Limits → LengthRange
range_of limits = record { least = limits.least; greatest = limits.greatest }

-- the name of a rate
abbrev pub name_of_rate : RateName → List ℕ
name_of_rate Copy = codes "copy_error"
name_of_rate Insert = codes "divide_insert"
name_of_rate Delete = codes "divide_delete"
name_of_rate SitePoint = codes "site_point"
name_of_rate SiteInsert = codes "site_insert"
name_of_rate SiteDelete = codes "site_delete"

-- the six rates
abbrev pub rate_names : List RateName
rate_names = Copy ∷ Insert ∷ Delete ∷ SitePoint ∷ SiteInsert ∷ SiteDelete ∷ []

-- the rate of this name
unfoldable pub rate_named : List ℕ → Option RateName
rate_named name = find (λ rate. bytes_eq (name_of_rate rate) name) rate_names
