-- How puts to a sink add up.
use Rattle.std.proofs.Common.{Result, Ok, Err, List, ℕ, [], ◌++◌, arith}
use Rattle.avida_port.specs.declared.sink.SinkStop.{SinkStop}
use Rattle.avida_port.specs.Ports.{SinkState, Puts}
use Rattle.written_texts.proofs.GainedLemmas.{append_known-nothing, front_short, front_then, gained_then, rose_later}

-- no put
pub puts_nothing : (a : SinkState) → Puts {T = Unit {0}} a a [] (Ok tt)
puts_nothing a = record {
  ok = append_known-nothing a.held;
  err = tt;
  fault = λ e. cc;
  memory = λ e. cc;
  counts = record { faults = omega arith; wants = omega arith };
}

-- puts, and puts after them
pub puts_then : {T U : Type 0} {a b c : SinkState} {xs : List ℕ} {u : U} {r : Result T SinkStop}
    (ys : List ℕ)
    → Puts a b xs (Ok u) → Puts b c ys r → Puts a c (xs ++ ys) r
puts_then {xs = xs} {r = Ok t} ys p q = record {
  ok = gained_then _ _ _ xs ys p.ok q.ok;
  err = tt;
  fault = λ e. cc;
  memory = λ e. cc;
  counts = record { faults = omega arith; wants = omega arith };
}
puts_then {a = a} {b = b} {c = c} {xs = xs} {r = Err e} ys p q = record {
  ok = tt;
  err = front_then a.held b.held c.held xs ys p.ok q.err;
  fault = λ f. rose_later a.faults b.faults c.faults p.counts.faults (q.fault f);
  memory = λ f. rose_later a.wants b.wants c.wants p.counts.wants (q.memory f);
  counts = record { faults = omega arith; wants = omega arith };
}

-- puts that stopped have not come to what was to follow
pub puts_short : {T : Type 0} {a b : SinkState} {xs : List ℕ} {e : SinkStop} (ys : List ℕ)
    → Puts {T = T} a b xs (Err e) → Puts {T = T} a b (xs ++ ys) (Err e)
puts_short {a = a} {b = b} {xs = xs} ys p = record {
  ok = tt;
  err = front_short a.held b.held xs ys p.err;
  fault = p.fault;
  memory = p.memory;
  counts = p.counts;
}
