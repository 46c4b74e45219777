-- How the texts of a run add up.
use Rattle.std.proofs.Common.{◌≡◌, ◌<◌, ◌+◌, ℕ, Result, Ok, Err, refl, add-one, arith, subst}
use Rattle.logged_run.proofs.Prelude.{SinkState, ConfigValues, head_text, update_text, updates_text, end_text, log_text, SinkStop, WritesAll, writes_short, writes_then}
use Rattle.written_texts.proofs.GrowingTexts.{Grows, part_stopped, part_written}

-- the texts of the updates so far grow by the next one
updates_grow : (config : ConfigValues) (end : ℕ)
    → Grows (updates_text config) (λ n. update_text config (n + 1)) end
updates_grow config end n within = rw (add-one n) refl

-- an update's text, said of the run that has come so far
text_at : {T : Type 0} {b c : SinkState} {r : Result T SinkStop} {config here : ConfigValues}
    {n at : ℕ} → here ≡ config → at ≡ n → WritesAll b c (update_text here (at + 1)) r
    → WritesAll b c (update_text config (n + 1)) r
text_at {T = T} {b = b} {c = c} {r = r} {config = config} {at = at} same now q =
    subst (λ k. WritesAll {T = T} b c (update_text config (k + 1)) r) now
    (subst (λ (d : ConfigValues). WritesAll {T = T} b c (update_text d (at + 1)) r) same q)

-- one more update is written
pub update_written : {T : Type 0} {a b c : SinkState} {r : Result T SinkStop}
    {config here : ConfigValues} {n at : ℕ}
    → WritesAll {T = Unit {0}} a b (updates_text config n) (Ok tt)
    → WritesAll b c (update_text here (at + 1)) r
    → here ≡ config → at ≡ n → WritesAll a c (updates_text config (n + 1)) r
update_written {config = config} {n = n} p q same now =
    part_written (updates_text config) (λ k. update_text config (k + 1)) (n + 1) n
    (updates_grow config (n + 1)) (omega arith) p (text_at same now q)

-- an update stopped
pub update_stopped : {T U : Type 0} {a b c : SinkState} {e : SinkStop}
    {config here : ConfigValues} {n at updates : ℕ} → n < updates
    → WritesAll {T = Unit {0}} a b (updates_text config n) (Ok tt)
    → WritesAll {T = T} b c (update_text here (at + 1)) (Err e)
    → here ≡ config → at ≡ n → WritesAll {T = U} a c (updates_text config updates) (Err e)
update_stopped {T = T} {config = config} {n = n} {updates = updates} within p q same now =
    part_stopped {T = T} (updates_text config) (λ k. update_text config (k + 1)) updates n
    (updates_grow config updates) within p (text_at same now q)

-- the log of a configuration that a world has
module _ {config here : ConfigValues} (same : here ≡ config) (updates : ℕ) where
  -- the first line stopped
  pub first_stopped : {T U : Type 0} {a b : SinkState} {e : SinkStop}
      → WritesAll {T = T} a b (head_text here) (Err e)
      → WritesAll {T = U} a b (log_text config updates) (Err e)
  unfolding log_text
  first_stopped {T = T} {U = U} {a = a} {b = b} {e = e} p =
      subst (λ (of : ConfigValues). WritesAll {T = U} a b (log_text of updates) (Err e)) same
      (writes_short {T = T} (end_text updates) (writes_short {U = T} (updates_text here updates) p))

  -- the updates stopped
  pub updates_stopped : {T U V : Type 0} {a b c : SinkState} {u : U} {e : SinkStop}
      → WritesAll {T = U} a b (head_text here) (Ok u)
      → WritesAll {T = T} b c (updates_text here updates) (Err e)
      → WritesAll {T = V} a c (log_text config updates) (Err e)
  unfolding log_text
  updates_stopped {T = T} {V = V} {a = a} {c = c} {e = e} p q =
      subst (λ (of : ConfigValues). WritesAll {T = V} a c (log_text of updates) (Err e)) same
      (writes_short {T = T} (end_text updates) (writes_then (updates_text here updates) p q))

  -- the last line is written, or stopped
  pub last_written : {T U V : Type 0} {a b c d : SinkState} {u : U} {v : V}
      {r : Result T SinkStop} {at : ℕ} → WritesAll {T = U} a b (head_text here) (Ok u)
      → WritesAll {T = V} b c (updates_text here updates) (Ok v)
      → WritesAll c d (end_text at) r → at ≡ updates → WritesAll a d (log_text config updates) r
  unfolding log_text
  last_written {T = T} {a = a} {c = c} {d = d} {r = r} p q l now =
      subst (λ (of : ConfigValues). WritesAll {T = T} a d (log_text of updates) r) same
      (writes_then (end_text updates) (writes_then (updates_text here updates) p q)
      (subst (λ n. WritesAll {T = T} c d (end_text n) r) now l))
