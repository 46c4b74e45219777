-- Where the reader of a saved world stands, and what it answers (docs/FORMATS.md, "Saved worlds").
use Rattle.std.specs.Prelude.{ℕ, List, Option, None, Some, IsSome, option_and_then, take, ◌≡◌, ⊤, Result, Ok, Err}
use Rattle.checkpoint.specs.Prelude.{Occupant, cell_text, SavedState, values_of_organism, SavedPlace, Before, Among, Halfway, After, state_of_lines, told_saved_line, CanGoOn, FitsText, SavedLine}
use Rattle.std.specs.List.{enumerate_from, flat_map}
use Rattle.checkpoint.specs.declared.place.ReadPlace as code
use Rattle.checkpoint.specs.declared.place.ReadPlace.TheVariants as place
use Rattle.checkpoint.specs.SoFarValue.{SoFarValue}
use Rattle.saved_worlds.specs.declared.saved_stop.SavedStop.{SavedStop}
use Rattle.saved_worlds.specs.declared.saved_stop.SavedStop.TheVariants as stop

-- the lines of who stands in so many first cells
abbrev pub first_cells_text : List (Option Occupant) → ℕ → List ℕ
first_cells_text cells count = flat_map cell_text (enumerate_from 0 (take count cells))

-- the place of a reader
abbrev pub saved_place_of : code.ReadPlace → SavedPlace
saved_place_of place.Before = Before
saved_place_of (place.Among so_far) = Among so_far.head so_far.placed
saved_place_of (place.Halfway half) =
    Halfway half.so_far.head half.so_far.placed (values_of_organism half.organism)
saved_place_of (place.After so_far) = After (state_of_lines so_far.head so_far.placed)

-- the bytes are read as this fault; running out of memory says nothing of them
abbrev pub IsFaultOf : SavedStop → Result SavedState SavedStop → Type 0
IsFaultOf stop.Memory read = ⊤
IsFaultOf (stop.BadLine line) read = read ≡ Err (stop.BadLine line)
IsFaultOf (stop.BadState line) read = read ≡ Err (stop.BadState line)
IsFaultOf (stop.Unended line) read = read ≡ Err (stop.Unended line)

-- the bytes are read as the state that the lines tell, or why not
abbrev pub Ends : Result SoFarValue SavedStop → Result SavedState SavedStop → Type 0
Ends (Ok so_far) read = read ≡ Ok (state_of_lines so_far.head so_far.placed)
Ends (Err e) read = IsFaultOf e read

-- a piece, of which this line or none is read, leads to the next place, or why not
abbrev pub Steps : Result code.ReadPlace SavedStop → ℕ → SavedPlace → Option SavedLine → Type 0
Steps (Ok next) number place found =
    option_and_then (told_saved_line place) found ≡ Some (saved_place_of next)
Steps (Err stop.Memory) number place found = ⊤
Steps (Err (stop.BadLine line)) number place found = (line ≡ number) × (found ≡ None)
Steps (Err (stop.BadState line)) number place found =
    (line ≡ number) × IsSome found × (option_and_then (told_saved_line place) found ≡ None)
Steps (Err (stop.Unended line)) number place found = ⊥

-- a state that its text gives again
pub record IsWritable (state : SavedState) : Type 0 where
  pub valid : CanGoOn state
  pub fits : FitsText state
