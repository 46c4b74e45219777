-- How what the updates of a run count adds up.
use Rattle.std.proofs.Common.{◌≡◌, ◌∙◌, ◌+◌, ◌<◌, ◌^◌, ℕ, suc, length, length-append, sym, ap, subst, add-one, arith}
use Rattle.logged_run.proofs.Prelude.{ConfigValues, WorldValue, update_text, updates_text, births_until, deaths_until, AreSmall, AreSumsOf, AreSumsWith, IsSumOver, IsSumWith, IsWorldAt}
use Rattle.std.proofs.lemmas.List.FromFn.{sum_by-map-range_with_len_more}
use Rattle.log_lines.specs.declared.stats.Stats.{Stats}
use Rattle.world_rules.specs.Statistics.{stats_of}
use Rattle.logged_run.specs.declared.sums.Sums.{Sums}

-- the births of one more update
births_more : (config : ConfigValues) (n : ℕ)
    → births_until config (n + 1) ≡ births_until config n + (stats_of config (n + 1)).births
unfolding births_until
births_more config n =
    sum_by-map-range_with_len_more (λ stats. stats.births) _ 1 n (n + 1) (omega arith)

-- the deaths of one more update
deaths_more : (config : ConfigValues) (n : ℕ)
    → deaths_until config (n + 1) ≡ deaths_until config n + (stats_of config (n + 1)).deaths
unfolding deaths_until
deaths_more config n =
    sum_by-map-range_with_len_more (λ stats. stats.deaths) _ 1 n (n + 1) (omega arith)

-- the bytes of the text of one more update
bytes_more : (config : ConfigValues) (n : ℕ)
    → length (updates_text config (n + 1)) ≡ length (updates_text config n) + length
    (update_text config (n + 1))
bytes_more config n =
    rw (add-one n) (length-append (updates_text config n) (update_text config (suc n)))

-- no update counts nothing
pub sums_none : (config : ConfigValues) (sums : Sums) → sums.births ≡ 0 → sums.deaths ≡ 0
    → sums.bytes ≡ 0 → AreSumsOf config 0 sums
unfolding births_until deaths_until
sums_none config sums births deaths bytes = record {
  births = record { is = births; small = omega (arith, births) };
  deaths = record { is = deaths; small = omega (arith, deaths) };
  bytes = record { is = bytes; small = omega (arith, bytes) };
}

-- a sum over few updates is small
sum_small : (n whole sum : ℕ) → n < 1000000 → IsSumOver n whole sum → sum < 2 ^ 100
sum_small n whole sum few so = omega (arith, few, so.small)

-- the sums over few updates are small
pub sums_small : (config : ConfigValues) (n : ℕ) (sums : Sums) → n < 1000000
    → AreSumsOf config n sums → AreSmall sums
sums_small config n sums few so =
    (sum_small n _ _ few so.births, sum_small n _ _ few so.deaths, sum_small n _ _ few so.bytes)

-- a sum over one more update
sum_more : {n whole more next sum after : ℕ} → IsSumOver n whole sum → IsSumWith more sum after
    → next ≡ whole + more → IsSumOver (n + 1) next after
sum_more {more = more} so is goes = record {
  is = is.sum ∙ ap (λ k. k + more) so.is ∙ sym goes;
  small = omega (arith, so.small, is.small);
}

-- the sums over one more update, which left this world and put so many bytes
pub sums_more : (config : ConfigValues) (n : ℕ) (next : WorldValue) (sums after : Sums)
    (stats : Stats) (bytes : ℕ) → AreSumsOf config n sums → IsWorldAt config (n + 1) next
    → stats ≡ stats_of next.config next.update → bytes ≡ length (update_text config (n + 1))
    → AreSumsWith stats bytes sums after → AreSumsOf config (n + 1) after
sums_more config n next sums after stats bytes so at counted long is =
    let here : stats ≡ stats_of config (n + 1) =
    counted ∙ ap (λ (c : ConfigValues). stats_of c next.update) at.config
    ∙ ap (stats_of config) at.update in
    record {
      births = sum_more so.births is.births (births_more config n
          ∙ sym (ap (λ (s : Stats). births_until config n + s.births) here));
      deaths = sum_more so.deaths is.deaths (deaths_more config n
          ∙ sym (ap (λ (s : Stats). deaths_until config n + s.deaths) here));
      bytes = sum_more so.bytes is.bytes (bytes_more config n
          ∙ sym (ap (λ k. length (updates_text config n) + k) long));
    }

module _ {config : ConfigValues} {n : ℕ} {world : WorldValue} {sums : Sums}
    (at : IsWorldAt config n world) where
  -- the sums so far, said of the world that has come so far
  pub sums_here : AreSumsOf config n sums → AreSumsOf world.config world.update sums
  sums_here so =
      subst (λ (of : ConfigValues). AreSumsOf of world.update sums) (sym at.config)
      (subst (λ (k : ℕ). AreSumsOf config k sums) (sym at.update) so)

  -- the sums with one update more of that world, said of the run
  pub sums_then : AreSumsOf world.config (world.update + 1) sums → AreSumsOf config (n + 1) sums
  sums_then so =
      subst (λ (k : ℕ). AreSumsOf config (k + 1) sums) at.update
      (subst (λ (of : ConfigValues). AreSumsOf of (world.update + 1) sums) at.config so)
