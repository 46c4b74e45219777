-- What `bench` counts of a run, and the configuration that it runs.
use Rattle.std.proofs.Common.{◌≡◌, ◌+◌, ℕ, [], ◌++◌, Ok, OnErr, OnOk, refl, ap, length, length-append, arith, rules}
use Rattle.std.specs.Prelude.{codes, decimal}
use Rattle.avida_program.proofs.Prelude.{letter_of_byte, Count, line_text, AreEvents, ConfigValues, WorldValue, end_text, head_text, log_text, Stays, IsEndOf, run_text, bench_config, bench_text, sums_text, LeavesFinal, Work, WritesText, Ended, CarriesOut}
use Rattle.toml.specs.Data.{no_members}
use Rattle.log_lines.specs.declared.stats.Stats.{Stats}
use Rattle.world_config.specs.Config.{config_in, values_in_table}
use Rattle.world_config.specs.KeyTable.{Frame}
use Rattle.world_config.specs.Lookup.{items_at, number_at}
use Rattle.world_config.specs.Refusal.{refusal_at}
use Rattle.world_rules.specs.Statistics.{stats_of}
use Rattle.logged_run.specs.declared.sums.Sums.{Sums}
use Rattle.command_line.specs.declared.positional.Bench.{Bench}
use Rattle.command_line.specs.declared.command.Command.TheVariants as command
use Rattle.avida_program.proofs.ReadEnds.{carried, text_caused}

-- the values that a document without keys gives are the defaults
plain_values : (values : ConfigValues) → config_in no_members ≡ Ok values
    → values ≡ values_in_table no_members []
unfolding letter_of_byte number_at items_at refusal_at
plain_values values is =
    let defaults : config_in no_members ≡ Ok (values_in_table no_members []) = refl in
    cc (is, defaults)

-- with a seed and 200 updates they are the configuration that `bench` runs
pub bench_values : (seed : ℕ) (values : ConfigValues) → config_in no_members ≡ Ok values
    → record values { seed = seed; updates = 200 } ≡ bench_config seed
unfolding bench_config
bench_values seed values is = rw (plain_values values is) refl

-- a list without events can stand in each configuration
no_events : (frame : Frame) → AreEvents frame []
no_events frame = record { number = omega arith; fit = search rules; rising = search rules }

-- the defaults have no events
pub events_fit : (values : ConfigValues) (frame : Frame) → config_in no_members ≡ Ok values
    → AreEvents frame values.event
events_fit values frame is = rw (plain_values values is) (no_events frame)

-- the three lines of a run that came to this end
pub sums_told : (world : WorldValue) (sums : Sums) (stats : Stats) (bytes : ℕ)
    → IsEndOf world.config world sums → stats ≡ stats_of world.config world.update
    → bytes ≡ length (head_text world.config) + sums.bytes + length (end_text world.update)
    → line_text (Count stats)
    ++ codes "births " ++ decimal sums.births ++ codes "\n"
    ++ codes "bytes " ++ decimal bytes ++ codes "\n" ≡ sums_text world.config
unfolding sums_text log_text
sums_told world sums stats bytes so told long =
    let last = ap (λ n. length (end_text n)) so.final.update in
    let all : bytes ≡ length (run_text world.config) =
    omega (arith, long, last, so.summed.bytes.is, length-append {A = ℕ}) in
    rw (told, so.final.update, so.summed.births.is, all) refl

-- `bench` ends so
pub benched : (asked : Bench) (work : Work) (ended : Ended) → Stays work.source → Stays work.watch
    → WritesText (bench_text asked.seed) work.out ended → OnErr ended (Stays work.last)
    → OnOk ended (LeavesFinal work.last (bench_config asked.seed))
    → CarriesOut (command.Bench asked) work ended
benched asked work ended source watch wrote last left =
    let bench = command.Bench asked in
    carried bench work ended (text_caused bench refl work (bench_text asked.seed) ended wrote)
    (λ is. watch) last (λ e. absurd cc)
    (record { source_stays = source; writes = wrote; last_world = left })
