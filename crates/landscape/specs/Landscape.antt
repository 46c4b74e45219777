-- All genomes that differ from one in one letter, what a survey of them comes to, and its text
-- (docs/WORLD.md, "Landscapes"; docs/FORMATS.md, "Landscape lines").
use Rattle.std.specs.Prelude.{ℕ, ◌==◌, List, filter, filter_map, flat_map, length, map, not, slice_index_or, slice_set, Option, ◌*◌, Bool, true, false, count_by, is_some, nat_lt, None, Some, ◌++◌, ◌∷◌, [], cond, codes, decimal}
use Rattle.std.specs.List.{range_with_len}
use Rattle.instruction_set.specs.declared.letter.Letter.{Letter}
use Rattle.instruction_set.specs.declared.letter.Letter.TheVariants.{NopA}
use Rattle.instruction_set.specs.Letter.{index_of, letter_at, byte_of}
use Rattle.landscape.specs.declared.changes.Change.{Change}
use Rattle.landscape.specs.declared.entry.Entry.{Entry}
use Rattle.landscape.specs.declared.first_divide.Trial.{Trial}
use Rattle.landscape.specs.Trials.{trial_of}
use Rattle.landscape.specs.declared.totals.Totals.{Totals}
use Rattle.std.specs.Option.{option_map_or}

-- the letters of so many indexes from one on, but for this letter
unfoldable pub others_from : Letter → ℕ → ℕ → List Letter
others_from letter from len =
    filter_map letter_at (filter (λ index. not (index == index_of letter))
    (range_with_len from len))

-- the changes of a place to each other letter
abbrev pub changes_at : List Letter → ℕ → List Change
changes_at genome at =
    map (λ letter. record { at = at; letter = letter })
    (others_from (slice_index_or genome at NopA) 0 26)

-- the changes of one letter, places rising, letters rising within a place
unfoldable pub changes_of : List Letter → List Change
changes_of genome = flat_map (changes_at genome) (range_with_len 0 (length genome))

-- the trial of a genome with one change
abbrev pub entry_of : List Letter → ℕ → Change → Entry
entry_of genome steps change = record {
  at = change.at;
  letter = change.letter;
  trial = trial_of (slice_set genome change.at change.letter) steps;
}

-- a genome's trial, and those of all genomes that differ from it in one letter
pub record Landscape : Type 0 where
  pub base : Option Trial
  pub entries : List Entry

-- the landscape round a genome
unfoldable pub survey_of : List Letter → ℕ → Landscape
survey_of genome steps = record {
  base = trial_of genome steps;
  entries = map (entry_of genome steps) (changes_of genome);
}

-- a trial is better where it gives more merit a step than the base's, or where the base has none
abbrev pub better_than : Option Trial → Trial → Bool
better_than None trial = true
better_than (Some base) trial = nat_lt (base.merit * trial.step) (trial.merit * base.step)

-- there is a trial, and its child is the tested genome
abbrev pub has_same : Option Trial → Bool
has_same None = false
has_same (Some trial) = trial.same

-- there is a trial, and it is better than the base's
abbrev pub has_better : Option Trial → Option Trial → Bool
has_better base None = false
has_better base (Some trial) = better_than base trial

-- how many entries there are, have a trial, have the tested genome as child, and are better
unfoldable pub totals_of : Landscape → Totals
totals_of s = record {
  entries = length s.entries;
  trials = count_by (λ entry. is_some entry.trial) s.entries;
  same = count_by (λ entry. has_same entry.trial) s.entries;
  better = count_by (λ entry. has_better s.base entry.trial) s.entries;
}

-- numbers, each behind a space
abbrev pub spaced_numbers : List ℕ → List ℕ
spaced_numbers numbers = flat_map (λ number. codes " " ++ decimal number) numbers

-- the step, the merit, and 1 where the child is the tested genome, else 0
abbrev pub trial_text : Trial → List ℕ
trial_text t = spaced_numbers (t.step ∷ t.merit ∷ cond t.same 1 0 ∷ [])

-- the line of the base
abbrev pub base_line : Option Trial → List ℕ
base_line None = codes "G -\n"
base_line (Some trial) = codes "G" ++ trial_text trial ++ codes "\n"

-- the line of a trial of a genome with this letter at this place
abbrev pub neighbour_line : ℕ → Letter → Trial → List ℕ
neighbour_line at letter trial =
    codes "N " ++ decimal at ++ codes " " ++ (byte_of letter ∷ trial_text trial) ++ codes "\n"

-- the line of an entry that has a trial
abbrev pub entry_line : Entry → List ℕ
entry_line entry = option_map_or (neighbour_line entry.at entry.letter) entry.trial []

-- the last line
abbrev pub totals_line : Totals → List ℕ
totals_line t =
    codes "T" ++ spaced_numbers (t.entries ∷ t.trials ∷ t.same ∷ t.better ∷ []) ++ codes "\n"

-- the text of a survey
abbrev pub survey_text : Landscape → List ℕ
survey_text s = base_line s.base ++ flat_map entry_line s.entries ++ totals_line (totals_of s)

-- the landscape round a genome
abbrev pub landscape_text : List Letter → ℕ → List ℕ
landscape_text genome steps = survey_text (survey_of genome steps)
