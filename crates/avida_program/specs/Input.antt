-- Which input a command takes (docs/FORMATS.md, "Genomes by letters", "Genomes by names", "The
-- configuration", "The log" and "Saved worlds"). What logs and saved worlds are read as by
-- functions serves the contracts below `serve`.
use Rattle.std.specs.Prelude.{◌≡◌, ◌*◌, ◌+◌, ℕ, List, Result, Ok, Err, length, nat_lt, if◌then◌else◌}
use Rattle.avida_program.specs.Prelude.{Letter, GenomeStop, Line, ReadsLog, LogStop, SavedState, SavedStop, config_of, ConfigValues, log_of}
use Rattle.genome.specs.GenomeText.{spelled_by_letters, spelled_by_names}
use Rattle.saved_worlds.specs.SavedGrammar.{ReadsSaved, saved_of}
use Rattle.command_line.specs.declared.command.Spelling.{Spelling}
use Rattle.command_line.specs.declared.command.Spelling.TheVariants.{Letters, Names}
use Rattle.avida_program.specs.declared.refusal.Refusal.{Refusal}
use Rattle.avida_program.specs.declared.refusal.Refusal.TheVariants.{TooLong, Genome, Config, Log, Saved, Cell, Cells, Updates}

-- an input, or what refuses it as the reason of a refusal
abbrev pub refused_as : {A E : Type 0} → (E → Refusal) → Result A E → Result A Refusal
refused_as reason (Ok input) = Ok input
refused_as reason (Err why) = Err (reason why)

-- an input, unless its bytes are more than this; too many bytes come first
abbrev pub unless_too_long : {A : Type 0} → ℕ → List ℕ → Result A Refusal → Result A Refusal
unless_too_long limit bytes read = if nat_lt limit (length bytes) then Err TooLong else read

-- the input is accepted, and this holds of it
abbrev pub IsInputWith : {A : Type 0} → (Result A Refusal → Type 0) → (A → Type 0) → Type 0
IsInputWith {A} reading P = (input : A) × reading (Ok input) × P input

-- the bytes are read as what this function gives of them
abbrev pub GivenBy : {A : Type 0} → (List ℕ → Result A Refusal) → List ℕ → Result A Refusal → Type 0
GivenBy input_of bytes answer = input_of bytes ≡ answer

-- the genome that is spelled so, or what refuses the bytes
abbrev pub genome_spelled : Spelling → List ℕ → Result (List Letter) GenomeStop
genome_spelled Letters bytes = spelled_by_letters bytes
genome_spelled Names bytes = spelled_by_names bytes

-- the genome of an input, or why it is refused
abbrev pub genome_of_input : Spelling → List ℕ → Result (List Letter) Refusal
genome_of_input spelling bytes =
    unless_too_long 1048576 bytes (refused_as Genome (genome_spelled spelling bytes))

-- the configuration of an input, or why it is refused
abbrev pub configuration_of : List ℕ → Result ConfigValues Refusal
configuration_of bytes = unless_too_long 1048576 bytes (refused_as Config (config_of bytes))

-- a configuration, unless this cell is not in its world; what refuses the configuration comes first
abbrev pub with_cell : ℕ → Result ConfigValues Refusal → Result ConfigValues Refusal
with_cell cell (Ok config) =
    if nat_lt cell (config.width * config.height) then Ok config else Err (Cell cell)
with_cell cell (Err why) = Err why

-- the configuration of an input that asks for a cell, or why it is refused
abbrev pub lineage_input_of : ℕ → List ℕ → Result ConfigValues Refusal
lineage_input_of cell bytes = with_cell cell (configuration_of bytes)

-- a configuration, or its refusal, or that so many worlds have more cells than run side by side
abbrev pub with_worlds : ℕ → Result ConfigValues Refusal → Result ConfigValues Refusal
with_worlds count (Ok config) =
    let cells = count * config.width * config.height in
    if nat_lt 131072 cells then Err (Cells cells) else Ok config
with_worlds count (Err why) = Err why

-- the configuration of an input of which so many worlds are asked for, or why it is refused
abbrev pub assay_input_of : ℕ → List ℕ → Result ConfigValues Refusal
assay_input_of count bytes = with_worlds count (configuration_of bytes)

-- a saved world, unless so many more updates go past the greatest; what refuses it comes first
abbrev pub with_more : ℕ → Result SavedState Refusal → Result SavedState Refusal
with_more more (Ok state) =
    let updates = state.head.update + more in
    if nat_lt 1000000 updates then Err (Updates updates) else Ok state
with_more more (Err why) = Err why

-- the bytes are a log of these lines, or are refused for this
abbrev pub ReadsLines : List ℕ → Result (List Line) Refusal → Type 0
ReadsLines bytes answer = (read : Result (List Line) LogStop) × ReadsLog bytes read
    × (unless_too_long 536870912 bytes (refused_as Log read) ≡ answer)

-- the bytes are a saved world in this state that may go on for so many updates, or are refused
abbrev pub ReadsState : ℕ → List ℕ → Result SavedState Refusal → Type 0
ReadsState more bytes answer = (read : Result SavedState SavedStop) × ReadsSaved bytes read
    × (with_more more (unless_too_long 536870912 bytes (refused_as Saved read)) ≡ answer)

-- the lines of an input that is a log, or why it is refused
abbrev pub log_input_of : List ℕ → Result (List Line) Refusal
log_input_of bytes = unless_too_long 536870912 bytes (refused_as Log (log_of bytes))

-- the state of an input that is a saved world, or why it is refused
abbrev pub saved_input_of : List ℕ → Result SavedState Refusal
saved_input_of bytes = unless_too_long 536870912 bytes (refused_as Saved (saved_of bytes))

-- the state of an input of which so many more updates are asked for, or why it is refused
abbrev pub resume_input_of : ℕ → List ℕ → Result SavedState Refusal
resume_input_of more bytes = with_more more (saved_input_of bytes)
