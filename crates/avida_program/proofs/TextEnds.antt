-- How a text that goes through a piece ends.
use Rattle.std.proofs.Common.{◌≡◌, ◌∙◌, Result, Ok, Err, List, ℕ, [], ◌++◌, append_assoc, ap, sym}
use Rattle.avida_program.proofs.Prelude.{SinkState, SinkStop, Writes, WritesAll, put_ended, put_written}
use Rattle.avida_port.specs.declared.sink.SinkStop.TheVariants as stop
use Rattle.written_texts.proofs.PutLemmas.{puts_short}
use Rattle.written_texts.proofs.WriteLemmas.{writes_then}

-- what a piece holds of a text is written, or stops
pub rest_put : {a b c : SinkState} {kept held : List ℕ} {r : Result (Unit {0}) SinkStop}
    (text : List ℕ) → Writes a b [] kept text (Ok tt) → held ≡ kept → WritesAll b c held r
    → WritesAll a c text r
rest_put {kept = kept} text p is q =
    rw (← p.ok.1) (writes_then kept (put_written p.ok.2) (rw (← is) q))

-- memory ran out within a text
pub wanting_within : {a b : SinkState} {kept front : List ℕ} (rest all : List ℕ)
    → Writes a b [] kept front (Ok tt) → front ++ rest ≡ all
    → WritesAll {T = Unit {0}} a b all (Err stop.Memory)
wanting_within {kept = kept} rest all p whole = record {
  ok = tt;
  err = (
    p.ok.0,
    (kept ++ rest, sym (append_assoc p.ok.0 kept rest) ∙ ap (λ l. l ++ rest) p.ok.1 ∙ whole),
    p.ok.2.ok,
  );
  fault = λ is. absurd (cc);
  counts = p.ok.2.counts;
}

-- a put stopped within a text
pub stopped_within : {a c : SinkState} {new front : List ℕ} {e : SinkStop} (rest all : List ℕ)
    → Writes a c [] new front (Err e) → front ++ rest ≡ all
    → WritesAll {T = Unit {0}} a c all (Err e)
stopped_within rest all p whole = put_ended all (puts_short rest p.err) whole
