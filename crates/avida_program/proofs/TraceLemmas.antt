-- The lines of a trace, cut at a step.
use Rattle.std.proofs.Common.{◌≡◌, ◌<◌, ◌-◌, ◌+◌, ℕ, zero, suc, List, [], ◌∷◌, ◌++◌, Result, Ok, sym, ap, ◌∙◌, add-zero, add-one, append_assoc, append-nil, arith, subst}
use Rattle.avida_program.proofs.Prelude.{flat_map, range_with_len, flat_map-append, SinkStop, SinkState, TracedStep, trace_step_of, Writes, organism_after, step_after, trace_line, trace_lines, writes_then}
use Rattle.organism.specs.OrganismState.{OrganismState}

-- the numbers from one on, and the next one
range_more : (a n next : ℕ) → a + n ≡ next
    → range_with_len a (suc n) ≡ range_with_len a n ++ next ∷ []
range_more a zero next is =
    let same : a ≡ next = omega (arith, is) in ap (λ (k : ℕ). k ∷ []) same
range_more a (suc n) next is =
    let others : a + 1 + n ≡ next = omega (arith, is) in
    ap (λ (ns : List ℕ). a ∷ ns) (range_more (a + 1) n next others)

-- one more line
pub lines_next : (o : OrganismState) (n : ℕ)
    → trace_lines o (n + 1) ≡ trace_lines o n ++ trace_line (n + 1) (step_after o n)
lines_next o n =
    let lines = λ (k : ℕ). trace_line (k + 1) (step_after o k) in
    ap (trace_lines o) (add-one n)
    ∙ ap (λ (ns : List ℕ). flat_map lines ns) (range_more 0 n n (omega arith))
    ∙ flat_map-append lines (range_with_len 0 n) (n ∷ [])
    ∙ ap (λ l. trace_lines o n ++ l) (append-nil (trace_line (n + 1) (step_after o n)))

-- the lines up to a step, and those behind it
pub lines_more : (o : OrganismState) (n k : ℕ)
    → (rest : List ℕ) × (trace_lines o n ++ rest ≡ trace_lines o (n + k))
lines_more o n zero = ([], rw add-zero (append-nil (trace_lines o n)))
lines_more o n (suc k) =
    let h = lines_more o n k in
    let line = trace_line (n + k + 1) (step_after o (n + k)) in (
      h.0 ++ line,
      sym (append_assoc (trace_lines o n) h.0 line) ∙ ap (λ l. l ++ line) h.1
          ∙ sym (lines_next o (n + k)) ∙ ap (trace_lines o) (add_one_inside n k),
    )
  where
    add_one_inside : (m j : ℕ) → m + j + 1 ≡ m + suc j
    add_one_inside m j = omega arith

-- the lines up to a step before the last one
pub lines_front : (o : OrganismState) (n steps : ℕ) → n < steps + 1
    → (rest : List ℕ) × (trace_lines o n ++ rest ≡ trace_lines o steps)
lines_front o n steps h =
    let more = lines_more o n (steps - n) in
    let same : n + (steps - n) ≡ steps = omega arith in
    (more.0, more.1 ∙ ap (trace_lines o) same)

-- the lines of all steps
pub lines_whole : {a b : SinkState} {kept : List ℕ} (o : OrganismState) (n steps : ℕ)
    → Writes a b [] kept (trace_lines o n) (Ok tt) → n ≡ steps
    → Writes a b [] kept (trace_lines o steps) (Ok tt)
lines_whole {a = a} {b = b} {kept = kept} o n steps p at_end =
    subst (λ m. Writes a b [] kept (trace_lines o m) (Ok tt)) at_end p

-- one more line is written
pub line_written : {a b c : SinkState} {kept new : List ℕ} {r : Result (Unit {0}) SinkStop}
    {here : OrganismState} {shown : TracedStep}
    (o : OrganismState) (n : ℕ) → Writes a b [] kept (trace_lines o n) (Ok tt)
    → Writes b c kept new (trace_line (n + 1) shown) r
    → shown ≡ (trace_step_of here).1 → here ≡ organism_after o n
    → Writes a c [] new (trace_lines o (n + 1)) r
line_written {a = a} {c = c} {new = new} {r = r} {shown = shown} o n p q shows at =
    let same : trace_line (n + 1) shown ≡ trace_line (n + 1) (step_after o n) =
    ap (trace_line (n + 1)) (shows ∙ ap (λ organism. (trace_step_of organism).1) at) in
    let all : trace_lines o n ++ trace_line (n + 1) shown ≡ trace_lines o (n + 1) =
    ap (λ l. trace_lines o n ++ l) same ∙ sym (lines_next o n) in
    subst (λ text. Writes a c [] new text r) all (writes_then (trace_line (n + 1) shown) p q)

-- the organism one step further
pub stepped_once : (o : OrganismState) (n : ℕ) (here next : OrganismState)
    → next ≡ (trace_step_of here).0 → here ≡ organism_after o n
    → next ≡ organism_after o (n + 1)
stepped_once o n here next is at =
    is ∙ ap (λ organism. (trace_step_of organism).0) at ∙ ap (organism_after o) (sym (add-one n))
