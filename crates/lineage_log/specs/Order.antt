-- The order of the lines of a log (docs/FORMATS.md, "The log").
use Rattle.std.specs.Prelude.{ℕ, ◌+◌, ◌*◌, List, [], ◌∷◌, length, replicate, Option, Some, None, Result, Ok, Err, Bool, nat_lt, ◌==◌, ◌&&◌, if◌then◌else◌, slice_get, slice_set, fold}
use Rattle.lineage_log.specs.Prelude.{Letter, BirthRecord, child_of, Line, Start, Death, Birth, Injected, Cleared, Rate, Count, End}
use Rattle.mutations.specs.declared.stop.ApplyStop.{ApplyStop}
use Rattle.log_lines.specs.declared.stats.Stats.{Stats}
use Rattle.lineage_log.specs.declared.reason.Reason.{Reason}
use Rattle.lineage_log.specs.declared.reason.Reason.TheVariants.{BadOrder, UnknownParent, BadChange}
use Rattle.lineage_log.specs.declared.stage.Stage.TheVariants.{Quiet, Dying, Placing, Happening}
pub use Rattle.lineage_log.specs.NumberedLines.{and_on, told_each}
use Rattle.lineage_log.specs.Reader.{holds, taken, Reader, may_die, may_be_born, is_quiet, parent_in, reader_with_newcomer, reader_with_death}

-- before the first line, within the log, or after the last line
pub data LogPlace : Type 0 where
  Before : LogPlace
  Within : Reader → LogPlace
  After : Reader → LogPlace

-- the reader where the test holds
abbrev pub within_if : Bool → Reader → Result LogPlace Reason
within_if test r = if test then Ok (Within r) else Err BadOrder

-- the reader after the first line
abbrev pub opened : ℕ → ℕ → ℕ → List Letter → Reader
opened version cells cell genome = record {
  version = version;
  due = 1;
  stage = Quiet;
  standing = slice_set (replicate cells None) cell (Some 0);
  people = Some genome ∷ [];
  newest = 1;
  leaving = [];
  births = 0;
}

-- the first line: the founder's cell is in the world
unfoldable pub told_start : ℕ → ℕ → ℕ → ℕ → List Letter → Result LogPlace Reason
told_start version width height cell genome =
    within_if (nat_lt cell (width * height)) (opened version (width * height) cell genome)

-- a death: in the due update, before births and events, in rising cells, of who stands there
unfoldable pub told_death : Reader → ℕ → ℕ → ℕ → Result LogPlace Reason
told_death r id update cell =
    within_if
    ((update == r.due) && may_die r.stage cell && holds (slice_get r.standing cell) (Some id))
    (reader_with_death r (Dying cell) cell id)

-- the child where its record applies
abbrev pub with_child : Reader → ℕ → Option ℕ → Result (List Letter) ApplyStop
    → Result LogPlace Reason
with_child r cell over (Ok child) =
    Ok (Within (reader_with_newcomer r Placing cell over child (r.births + 1)))
with_child r cell over (Err stop) = Err BadChange

-- the child of a parent that lived when the update began
abbrev pub with_parent :
    Reader → ℕ → Option ℕ → BirthRecord → Option (List Letter) → Result LogPlace Reason
with_parent r cell over birth None = Err UnknownParent
with_parent r cell over birth (Some letters) = with_child r cell over (child_of letters birth)

-- a birth: in the due update, before events, with the next id, over who stands in the cell
unfoldable pub told_birth : Reader → ℕ → ℕ → ℕ → ℕ → Option ℕ → BirthRecord → Result LogPlace Reason
told_birth r id parent update cell over birth =
    if (update == r.due) && may_be_born r.stage && (id == length r.people)
    && holds (slice_get r.standing cell) over
    then with_parent r cell over birth (parent_in r parent)
    else Err BadOrder

-- an event line may come in this update
abbrev pub may_happen : Reader → ℕ → Bool
may_happen r update = (r.version == 2) && (update == r.due)

-- an injected organism, with the next id, over who stands in the cell
unfoldable pub told_injected : Reader → ℕ → ℕ → ℕ → Option ℕ → List Letter → Result LogPlace Reason
told_injected r id update cell over genome =
    within_if
    (may_happen r update && (id == length r.people) && holds (slice_get r.standing cell) over)
    (reader_with_newcomer r Happening cell over genome r.births)

-- a cleared organism, which stands in the cell
unfoldable pub told_cleared : Reader → ℕ → ℕ → ℕ → Result LogPlace Reason
told_cleared r id update cell =
    within_if (may_happen r update && holds (slice_get r.standing cell) (Some id))
    (reader_with_death r Happening cell id)

-- a rate
unfoldable pub told_rate : Reader → ℕ → Result LogPlace Reason
told_rate r update = within_if (may_happen r update) (record r { stage = Happening })

-- the reader when the next update is due
abbrev pub at_next_update : Reader → Reader
at_next_update r = record r {
  due = r.due + 1;
  stage = Quiet;
  people = fold (λ people id. slice_set people id None) r.people r.leaving;
  newest = length r.people;
  leaving = [];
  births = 0;
}

-- the end of the due update, with the counts that its lines give
unfoldable pub told_count : Reader → Stats → Result LogPlace Reason
told_count r s =
    within_if
    ((s.update == r.due) && (s.living == taken r.standing) && (s.births == r.births)
    && (s.deaths == length r.leaving))
    (at_next_update r)

-- the last line: the last update has its end, and this number
unfoldable pub told_end : Reader → ℕ → Result LogPlace Reason
told_end r updates =
    if is_quiet r.stage && (updates + 1 == r.due) then Ok (After r) else Err BadOrder

-- one line: the first one opens the log, and none stands behind the last
abbrev pub told : LogPlace → Line → Result LogPlace Reason
told Before (Start version width height cell genome) = told_start version width height cell genome
told (Within r) (Death id update cell) = told_death r id update cell
told (Within r) (Birth id parent update cell over birth) =
    told_birth r id parent update cell over birth
told (Within r) (Injected id update cell over genome) =
    told_injected r id update cell over genome
told (Within r) (Cleared id update cell) = told_cleared r id update cell
told (Within r) (Rate update name ppm) = told_rate r update
told (Within r) (Count stats) = told_count r stats
told (Within r) (End updates) = told_end r updates
told _ _ = Err BadOrder

-- all lines, up to the first that is faulty
abbrev pub told_all : LogPlace → List Line → Result LogPlace Reason
told_all place lines = told_each told place lines

-- the last line has come
abbrev pub IsWhole : Result LogPlace Reason → Type 0
IsWhole (Ok (After r)) = Unit {0}
IsWhole _ = ⊥
