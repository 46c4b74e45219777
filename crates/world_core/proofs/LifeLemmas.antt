-- What lives need to know of their world.
use Rattle.std.proofs.Common.{◌≡◌, ℕ, ◌*◌, ◌<◌, ◌≤◌, ◌^◌, List, length, sum, arith, ap}
use Rattle.world_core.proofs.Prelude.{All, sum_by-le, ConfigValues, settings_at}
use Rattle.organism.specs.SettingNumbers.{SettingNumbers}

-- the greatest length of a genome in an update is the configuration's own
pub greatest_of : (config : ConfigValues) (update : ℕ) (settings : SettingNumbers)
    → settings ≡ settings_at config update → settings.rules.greatest ≡ config.rules.greatest
unfolding settings_at
greatest_of config update settings same = ap (λ (s : SettingNumbers). s.rules.greatest) same

-- all merits of a world together
pub sum-merits : (merits : List ℕ) → All (λ merit. merit ≤ 2 ^ 38) merits → length merits ≤ 65536
    → sum merits < 2 ^ 55
sum-merits merits fit few =
    let most : sum merits ≤ length merits * 2 ^ 38 = sum_by-le (λ m. m) (2 ^ 38) merits fit in
    omega (arith, most)
