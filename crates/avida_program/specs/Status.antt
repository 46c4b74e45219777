-- Statuses, and the lines that tell of them (docs/FORMATS.md, "Statuses and fault lines").
use Rattle.std.specs.Prelude.{ℕ, ◌&&◌, nat_le, if◌then◌else◌, List, [], ◌++◌, Result, Ok, Err, map, take, codes, decimal}
use Rattle.avida_program.specs.Prelude.{signed_decimal, GenomeStop, LogStop, SavedStop, key_name}
use Rattle.avida_program.specs.declared.status.Status.{Status}
use Rattle.avida_program.specs.declared.status.Status.TheVariants as status
use Rattle.avida_program.specs.declared.call_error.CallError.{CallError}
use Rattle.avida_program.specs.declared.call_error.CallError.TheVariants as error
use Rattle.avida_program.specs.declared.refusal.Refusal.{Refusal}
use Rattle.avida_program.specs.declared.refusal.Refusal.TheVariants.{TooLong, Genome, Config, Log, Saved, Cell, Cells, Updates}
use Rattle.genome.specs.declared.stop.GenomeStop.TheVariants as stop
use Rattle.lineage_log.specs.declared.log_stop.LogStop.TheVariants as log
use Rattle.saved_worlds.specs.declared.saved_stop.SavedStop.TheVariants as saved
use Rattle.world_config.specs.declared.stop.ConfigStop.{ConfigStop}
use Rattle.world_config.specs.declared.stop.ConfigStop.TheVariants as config

-- the exit status
abbrev pub number_of_status : Status → ℕ
number_of_status status.Done = 0
number_of_status status.BadWords = 2
number_of_status status.BadInput = 3
number_of_status status.ReadFault = 4
number_of_status status.WriteFault = 5
number_of_status status.NoMemory = 6

-- how a call ends: all is done, or this is why not
abbrev pub Ended : Type 0
Ended = Result (Unit {0}) CallError

-- how a call ends, without the reason of a refusal
abbrev pub status_of : Ended → Status
status_of (Ok done) = status.Done
status_of (Err error.BadWords) = status.BadWords
status_of (Err (error.BadInput why)) = status.BadInput
status_of (Err error.ReadFault) = status.ReadFault
status_of (Err error.WriteFault) = status.WriteFault
status_of (Err error.Memory) = status.NoMemory

-- why letters, or a text, are no genome; running out of memory refuses no input
abbrev pub genome_reason : GenomeStop → List ℕ
genome_reason stop.Memory = []
genome_reason (stop.BadLetter place) = codes "letter at " ++ decimal place
genome_reason (stop.BadName line) = codes "name in line " ++ decimal line
genome_reason (stop.TooShort letters) = codes "short " ++ decimal letters
genome_reason (stop.TooLong letters) = codes "long " ++ decimal letters

-- a byte of a key as a line shows it: one outside the printed ones, and a space, is shown as ?
abbrev pub shown_byte : ℕ → ℕ
shown_byte byte = if nat_le 0x21 byte && nat_le byte 0x7E then byte else 63

-- the prefix of a key as a line shows it
abbrev pub shown_key : List ℕ → List ℕ
shown_key key = map shown_byte (take 64 key)

-- why a document is no configuration; running out of memory refuses no input
abbrev pub config_reason : ConfigStop → List ℕ
config_reason config.Memory = []
config_reason config.BadToml = codes "toml"
config_reason (config.UnknownKey key) = codes "key " ++ shown_key key
config_reason (config.WrongKind key) = codes "kind " ++ key_name key
config_reason (config.OutOfRange key value) =
    codes "range " ++ key_name key ++ codes " " ++ signed_decimal value
config_reason (config.BadAncestor why) = codes "ancestor " ++ genome_reason why
config_reason (config.BadEvent nth) = codes "event " ++ decimal nth

-- which line is faulty, and how; running out of memory refuses no input
abbrev pub log_reason : LogStop → List ℕ
log_reason log.Memory = []
log_reason (log.BadLine line) = codes "line " ++ decimal line
log_reason (log.BadOrder line) = codes "order " ++ decimal line
log_reason (log.UnknownParent line) = codes "parent " ++ decimal line
log_reason (log.BadChange line) = codes "change " ++ decimal line
log_reason (log.Unended line) = codes "unended " ++ decimal line

-- which line of a saved world is faulty, and how; running out of memory refuses no input
abbrev pub saved_reason : SavedStop → List ℕ
saved_reason saved.Memory = []
saved_reason (saved.BadLine line) = codes "line " ++ decimal line
saved_reason (saved.BadState line) = codes "state " ++ decimal line
saved_reason (saved.Unended line) = codes "unended " ++ decimal line

-- the reason of a refusal, as its line tells it
abbrev pub reason_of : Refusal → List ℕ
reason_of TooLong = codes "too long"
reason_of (Genome why) = genome_reason why
reason_of (Config why) = config_reason why
reason_of (Log why) = log_reason why
reason_of (Saved why) = saved_reason why
reason_of (Cell cell) = codes "cell " ++ decimal cell
reason_of (Cells cells) = codes "cells " ++ decimal cells
reason_of (Updates updates) = codes "updates " ++ decimal updates

-- the line that tells why a call isn't done
abbrev pub fault_line : CallError → List ℕ
fault_line error.BadWords = codes "avida: bad words\n"
fault_line (error.BadInput why) = codes "avida: bad input: " ++ reason_of why ++ codes "\n"
fault_line error.ReadFault = codes "avida: read fault\n"
fault_line error.WriteFault = codes "avida: write fault\n"
fault_line error.Memory = codes "avida: no memory\n"
