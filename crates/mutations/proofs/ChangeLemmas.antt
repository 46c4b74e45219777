-- Changes made one after another.
use Rattle.std.proofs.Common.{◌≡◌, refl, sym, ◌∙◌, ap, ℕ, ◌+◌, ◌<◌, Bool, true, false, cond, List, [], ◌∷◌, ◌++◌, length, append_assoc, append-nil, drop, get_or, drop-cons, add-one, Result, Ok, Err, arith}
use Rattle.mutations.proofs.Prelude.{Letter, NopA, Change, Place, Length, text_after, with_change, has_place, is_genome_length, Makes, PassState, Passed, Stream, Drawn, none_by, in_turn}
use Rattle.mutations.specs.declared.stop.ApplyStop.{ApplyStop}

-- a step that gave a text took neither refusal
pub step-made : (placed fits : Bool) (rest : Result (List Letter) ApplyStop)
    (place len : ApplyStop) (made : List Letter)
    → cond placed (cond fits rest (Err len)) (Err place) ≡ Ok made
    → (placed ≡ true) × (fits ≡ true) × (rest ≡ Ok made)
step-made true true rest place len made h = (refl, refl, h)
step-made true false rest place len made h = absurd cc
step-made false fits rest place len made h = absurd cc

-- further changes go on from the text that the first ones made
pub text_after-append : (nth : ℕ) (first more : List Change) (from made : List Letter)
    → text_after nth first from ≡ Ok made
    → text_after nth (first ++ more) from ≡ text_after (nth + length first) more made
text_after-append nth [] more from made h =
    let same : from ≡ made = cc in let n : nth + 0 ≡ nth = omega arith in rw (same, n) refl
text_after-append nth (change ∷ first) more from made h =
    let step = step-made (has_place change (length from))
    (is_genome_length (length (with_change change from))) _ (Place nth) (Length nth) made h in
    let placed : has_place change (length from) ≡ true = step.0 in
    let fits : is_genome_length (length (with_change change from)) ≡ true = step.1 in
    let n : nth + 1 + length first ≡ nth + length (change ∷ first) = omega arith in
    rw (placed, fits)
    (text_after-append (nth + 1) first more (with_change change from) made step.2
    ∙ ap (λ k. text_after k more made) n)

-- what makes a text, and what makes another of that one
pub Makes-append : (first more : List Change) (from through to : List Letter)
    → Makes first from through → Makes more through to → Makes (first ++ more) from to
Makes-append first more from through to one two = record {
  made = λ nth. text_after-append nth first more from through (one.made nth)
      ∙ two.made (nth + length first);
}

-- no change makes the same text
pub Makes-none : (text : List Letter) → Makes [] text text
Makes-none text = record { made = λ nth. refl }

-- one change that has its place and leaves a genome's length
pub Makes-one : (change : Change) (from : List Letter) → has_place change (length from) ≡ true
    → is_genome_length (length (with_change change from)) ≡ true
    → Makes (change ∷ []) from (with_change change from)
Makes-one change from placed fits = record { made = λ nth. rw (placed, fits) refl }

-- what is left of a walk over a text: its changes, after those noted, are the whole walk's
pub record Left (others whole : Drawn) (start now : PassState) : Type 0 where
  pub changes : now.changes ++ others.changes ≡ start.changes ++ whole.changes
  pub next : others.next ≡ whole.next
  pub made : (to : List Letter) → Makes others.changes now.text to
      → Makes whole.changes start.text to
  pub stream : now.draws ≡ record start.draws { taken = now.draws.taken }

-- one step of the walk
pub Left-next : (here others whole : Drawn) (start now next : PassState) → Passed here now next
    → Left (in_turn here others) whole start now → Left others whole start next
Left-next here others whole start now next passed left = record {
  changes = ap (λ l. l ++ others.changes) passed.noted
      ∙ append_assoc now.changes here.changes others.changes ∙ left.changes;
  next = left.next;
  made = λ to further. left.made to
      (Makes-append here.changes others.changes now.text next.text to passed.made further);
  stream = passed.taken ∙ ap (λ (s : Stream). record s { taken = here.next }) left.stream
      ∙ ap (λ (n : ℕ). record start.draws { taken = n })
      (sym (ap (λ (s : Stream). s.taken) passed.taken));
}

-- the walk after its last step
pub Left-none : (whole : Drawn) (start now : PassState)
    → Left (none_by now.draws.taken) whole start now
    → Passed whole start now
Left-none whole start now left = record {
  made = left.made now.text (Makes-none now.text);
  noted = sym (append-nil now.changes) ∙ left.changes;
  taken = left.stream ∙ ap (λ (n : ℕ). record start.draws { taken = n }) left.next;
}

-- the rest of a text from a place on
pub drop-here : (text : List Letter) (at : ℕ) → at < length text
    → drop at text ≡ get_or text at NopA ∷ drop (at + 1) text
drop-here text at inside = rw (add-one, drop-cons text at NopA) refl

-- what drew some changes, and then more
pub Passed-append : (first more : Drawn) (before between after : PassState)
    → Passed first before between → Passed more between after
    → Passed (in_turn first more) before after
Passed-append first more before between after one two = record {
  made = Makes-append first.changes more.changes before.text between.text after.text one.made
      two.made;
  noted = two.noted ∙ ap (λ l. l ++ more.changes) one.noted
      ∙ append_assoc before.changes first.changes more.changes;
  taken = two.taken ∙ ap (λ (s : Stream). record s { taken = more.next }) one.taken;
}
