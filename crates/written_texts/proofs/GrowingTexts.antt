-- Texts that grow by one part after another, as they are written.
use Rattle.std.proofs.Common.{◌≡◌, ◌<◌, ◌≤◌, ◌+◌, ◌-◌, ℕ, zero, suc, List, [], ◌++◌, Result, Ok, Err, sym, ap, ◌∙◌, append_assoc, append-nil, add-zero, arith, subst}
use Rattle.avida_port.specs.Ports.{SinkState}
use Rattle.avida_port.specs.declared.sink.SinkStop.{SinkStop}
use Rattle.written_texts.specs.WrittenText.{WritesAll}
use Rattle.written_texts.proofs.WriteLemmas.{writes_short, writes_then}

-- the text of so many parts grows by the next one, up to the last
abbrev pub Grows : (ℕ → List ℕ) → (ℕ → List ℕ) → ℕ → Type 0
Grows text part end = (n : ℕ) → n < end → text (n + 1) ≡ text n ++ part n

-- the text of some parts, and what is behind it
text_more : (text part : ℕ → List ℕ) (end : ℕ) → Grows text part end → (n k : ℕ) → n + k ≤ end
    → (rest : List ℕ) × (text n ++ rest ≡ text (n + k))
text_more text part end grows n zero within = ([], rw add-zero (append-nil (text n)))
text_more text part end grows n (suc k) within =
    let h = text_more text part end grows n k (omega arith) in
    let next : n + k + 1 ≡ n + suc k = omega arith in (
      h.0 ++ part (n + k),
      sym (append_assoc (text n) h.0 (part (n + k))) ∙ ap (λ l. l ++ part (n + k)) h.1
          ∙ sym (grows (n + k) (omega arith)) ∙ ap text next,
    )

-- one more part is written, or stopped
pub part_written : {T : Type 0} {a b c : SinkState} {r : Result T SinkStop}
    (text part : ℕ → List ℕ) (end n : ℕ) → Grows text part end → n < end
    → WritesAll {T = Unit {0}} a b (text n) (Ok tt) → WritesAll b c (part n) r
    → WritesAll a c (text (n + 1)) r
part_written {T = T} {a = a} {c = c} {r = r} text part end n grows within p q =
    subst (λ l. WritesAll {T = T} a c l r) (sym (grows n within)) (writes_then (part n) p q)

-- a part stopped before the end
pub part_stopped : {T U : Type 0} {a b c : SinkState} {e : SinkStop}
    (text part : ℕ → List ℕ) (end n : ℕ) → Grows text part end → n < end
    → WritesAll {T = Unit {0}} a b (text n) (Ok tt) → WritesAll {T = T} b c (part n) (Err e)
    → WritesAll {T = U} a c (text end) (Err e)
part_stopped {T = T} {U = U} {a = a} {c = c} {e = e} text part end n grows within p q =
    let rest = text_more text part end grows (n + 1) (end - (n + 1)) (omega arith) in
    let same : n + 1 + (end - (n + 1)) ≡ end = omega arith in
    subst (λ l. WritesAll {T = U} a c l (Err e)) (rest.1 ∙ ap text same)
    (writes_short {T = T} rest.0 (part_written text part end n grows within p q))
