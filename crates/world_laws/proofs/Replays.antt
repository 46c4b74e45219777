-- Every run's log is a good one, and replays to who lives at its end.
use Rattle.std.proofs.Common.{◌≡◌, ℕ, ◌≤◌, List}
use Rattle.std.specs.Prelude.{◌↔◌}
use Rattle.world_laws.proofs.Prelude.{Line, IsGoodLog, Reads, lines_text, ConfigValues, log_text, ReplaysToLiving, LifeLaws, IsConfig}
use Rattle.world_laws.proofs.WholeLogs.{run_lines, run_whole, run_replays}
use Rattle.world_laws.proofs.RunForms.{run_forms, text_is}

-- what is read as a log is a good log's text
pub record ReadLaw : Type 0 where
  pub reads : (bytes : List ℕ) (lines : List Line) → Reads bytes lines
      ↔ ((lines_text lines ≡ bytes) × IsGoodLog lines)

-- the log of a run is read as its lines
pub run_reads : LifeLaws → ReadLaw → (config : ConfigValues) → IsConfig config → (n : ℕ)
    → n ≤ 4294967295 → Reads (log_text config n) (run_lines config n)
run_reads laws read config fit n h = (read.reads (log_text config n) (run_lines config n)).1 (
  text_is config n,
  record { forms = run_forms laws config fit n h; order = run_whole laws config fit n },
)

-- the law, for a configuration within its bounds
pub replays_to_living : LifeLaws → ReadLaw → (config : ConfigValues) → IsConfig config → (n : ℕ)
    → n ≤ 4294967295 → ReplaysToLiving config n
replays_to_living laws read config fit n h = record {
  lines = run_lines config n;
  good = run_reads laws read config fit n h;
  replays = run_replays laws config fit n;
}
