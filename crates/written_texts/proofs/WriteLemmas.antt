-- How texts that are written, or stop, add up.
use Rattle.std.proofs.Common.{◌≡◌, Result, Ok, Err, IfErr, IfOk, List, ℕ, [], ◌++◌, ap, append-nil, arith, inl, inr, refl, subst, sym}
use Rattle.avida_port.specs.Ports.{SinkState, GainedPrefix, Puts}
use Rattle.avida_port.specs.declared.sink.SinkStop.{SinkStop}
use Rattle.avida_port.specs.declared.sink.SinkStop.TheVariants as stop
use Rattle.written_texts.specs.WrittenText.{WritesAll}
use Rattle.written_texts.proofs.GainedLemmas.{append_known-nothing, front_short, front_then, gained_then, nothing_gained, rose_later}

-- nothing is written
pub writes_nothing : (a : SinkState) → WritesAll {T = Unit {0}} a a [] (Ok tt)
writes_nothing a = record {
  ok = append_known-nothing a.held;
  err = tt;
  fault = tt;
  counts = record { faults = omega arith; wants = omega arith };
}

-- memory ran out before anything was written
pub nothing_written : {T : Type 0} (a : SinkState) (text : List ℕ)
    → WritesAll {T = T} a a text (Err stop.Memory)
nothing_written a text = record {
  ok = tt;
  err = nothing_gained a a text refl;
  fault = λ is. absurd (cc);
  counts = record { faults = omega arith; wants = omega arith };
}

-- a text that is put is written, or stops where the put stops
pub put_written : {T : Type 0} {a b : SinkState} {text : List ℕ} {r : Result T SinkStop}
    → Puts a b text r → WritesAll a b text r
put_written {r = Ok t} p = record { ok = p.ok; err = tt; fault = tt; counts = p.counts }
put_written {r = Err e} p =
    record { ok = tt; err = p.err; fault = λ is. p.fault (ap Err is); counts = p.counts }

-- the put of a text stopped
pub put_ended : {T U : Type 0} {a b : SinkState} {text : List ℕ} {e : SinkStop}
    (whole : List ℕ) → Puts {T = U} a b text (Err e) → text ≡ whole
    → WritesAll {T = T} a b whole (Err e)
put_ended {a = a} {b = b} whole p same =
    let here = put_written p in record {
      ok = tt;
      err = subst (GainedPrefix a b) same here.err;
      fault = here.fault;
      counts = here.counts;
    }

-- a text, and a text after it
pub writes_then : {T U : Type 0} {a b c : SinkState} {xs : List ℕ} {u : U} {r : Result T SinkStop}
    (ys : List ℕ)
    → WritesAll a b xs (Ok u) → WritesAll b c ys r → WritesAll a c (xs ++ ys) r
writes_then {xs = xs} {r = Ok t} ys p q = record {
  ok = gained_then _ _ _ xs ys p.ok q.ok;
  err = tt;
  fault = tt;
  counts = record { faults = omega arith; wants = omega arith };
}
writes_then {a = a} {b = b} {c = c} {xs = xs} {r = Err e} ys p q = record {
  ok = tt;
  err = front_then a.held b.held c.held xs ys p.ok q.err;
  fault = λ is. rose_later a.faults b.faults c.faults p.counts.faults (q.fault is);
  counts = record { faults = omega arith; wants = omega arith };
}

-- a text that stopped has not come to what was to follow
pub writes_short : {T U : Type 0} {a b : SinkState} {xs : List ℕ} {e : SinkStop} (ys : List ℕ)
    → WritesAll {T = T} a b xs (Err e) → WritesAll {T = U} a b (xs ++ ys) (Err e)
writes_short {a = a} {b = b} {xs = xs} ys p = record {
  ok = tt;
  err = front_short a.held b.held xs ys p.err;
  fault = p.fault;
  counts = p.counts;
}

-- a text that is written, whatever the answer holds
pub writes_same : {T U : Type 0} {a b : SinkState} {xs : List ℕ} {t : T} {u : U}
    → WritesAll {T = T} a b xs (Ok t) → WritesAll {T = U} a b xs (Ok u)
writes_same p = record { ok = p.ok; err = tt; fault = tt; counts = p.counts }

-- a text that stopped, whatever the answer would have held
pub stopped_same : {T U : Type 0} {a b : SinkState} {xs : List ℕ} {e : SinkStop}
    → WritesAll {T = T} a b xs (Err e) → WritesAll {T = U} a b xs (Err e)
stopped_same p = record { ok = tt; err = p.err; fault = p.fault; counts = p.counts }

-- a text that is written, or stops, beside a value that is kept
pub kept_writes : {T : Type 0} {a b : SinkState} {xs : List ℕ}
    {done : Result (Unit {0}) SinkStop} {result : Result T SinkStop}
    → IfOk result (λ _. done ≡ Ok tt) → IfErr result (λ e. done ≡ Err e)
    → WritesAll a b xs done → WritesAll a b xs result
kept_writes {T = T} {a = a} {b = b} {xs = xs} {result = Ok kept} ok err p =
    writes_same (subst (WritesAll {T = Unit {0}} a b xs) ok p)
kept_writes {T = T} {a = a} {b = b} {xs = xs} {result = Err e} ok err p =
    stopped_same (subst (WritesAll {T = Unit {0}} a b xs) err p)

-- what holds of a value holds of it once it is kept
pub kept_holds : {T E : Type 0} (P : T → Type 0) (value : T) (result : Result T E)
    → IfOk result (λ kept. kept ≡ value) → P value → IfOk result P
kept_holds P value (Ok kept) same holds = subst P (sym same) holds
kept_holds P value (Err e) same holds = tt

-- memory ran out after a text was written
pub wanting_after : {T U : Type 0} {a b : SinkState} {xs : List ℕ} {t : T}
    → WritesAll {T = T} a b xs (Ok t) → WritesAll {T = U} a b xs (Err stop.Memory)
wanting_after {xs = xs} p = record {
  ok = tt;
  err = (xs, ([], append-nil xs), p.ok);
  fault = λ is. absurd (cc);
  counts = p.counts;
}

-- where no write of a sink ever failed, none stopped this text
pub never_fails : {T : Type 0} {a b : SinkState} {text : List ℕ} (r : Result T SinkStop)
    → WritesAll a b text r → b.faults ≡ 0 → r ≡ Err stop.Fault → ⊥
never_fails (Ok t) p none is = absurd cc
never_fails (Err e) p none is =
    let fault : e ≡ stop.Fault = cc is in
    elim (p.fault fault) [
      | inl less ↦ absurd (omega (arith, less, none))
      | inr last ↦ absurd (omega (arith, last, none))
    ]
