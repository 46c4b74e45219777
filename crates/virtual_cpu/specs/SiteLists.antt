-- What the places of memory hold (docs/MACHINE.md, "The machine").
use Rattle.std.specs.Prelude.{ℕ, ◌++◌, Bool, true, false, List, length, map, replicate, slice_set}
use Rattle.virtual_cpu.specs.Prelude.{Letter, NopA, Site, letters_of}

-- a list for each thing that a place holds, and how many places there is room for
pub record SiteLists : Type 0 where
  pub letters : List Letter
  -- what was copied, before any copy error
  pub clean : List Letter
  pub executed : List Bool
  pub copied : List Bool
  pub room : ℕ

-- what was copied to some sites
abbrev pub clean_of : List Site → List Letter
clean_of sites = map (λ site. site.clean) sites

-- what was copied to a site, or what it holds
abbrev pub letter_by : Bool → Site → Letter
letter_by true site = site.clean
letter_by false site = site.letter

-- whether a site was copied to, or executed
abbrev pub mark_by : Bool → Site → Bool
mark_by true site = site.copied
mark_by false site = site.executed

-- whether some sites were executed
abbrev pub executed_of : List Site → List Bool
executed_of sites = map (λ site. site.executed) sites

-- whether some sites were copied to
abbrev pub copied_of : List Site → List Bool
copied_of sites = map (λ site. site.copied) sites

-- the lists of some sites, with this much room
abbrev pub lists_in : List Site → ℕ → SiteLists
lists_in sites room = record {
  letters = letters_of sites;
  clean = clean_of sites;
  executed = executed_of sites;
  copied = copied_of sites;
  room = room;
}

-- the site of a letter that was neither executed nor copied
abbrev pub fresh_site : Letter → Site
fresh_site letter = record { letter = letter; clean = letter; executed = false; copied = false }

-- the sites of a text, with this much room
abbrev pub fresh_lists : List Letter → ℕ → SiteLists
fresh_lists text room = record {
  letters = text;
  clean = text;
  executed = replicate (length text) false;
  copied = replicate (length text) false;
  room = room;
}

-- further places of nop-A, unmarked
abbrev pub with_places : SiteLists → ℕ → SiteLists
with_places lists count = record lists {
  letters = lists.letters ++ replicate count NopA;
  clean = lists.clean ++ replicate count NopA;
  executed = lists.executed ++ replicate count false;
  copied = lists.copied ++ replicate count false;
}

-- a copy at a place
abbrev pub with_copy : SiteLists → ℕ → Letter → Letter → SiteLists
with_copy lists place letter clean = record lists {
  letters = slice_set lists.letters place letter;
  clean = slice_set lists.clean place clean;
  copied = slice_set lists.copied place true;
}
