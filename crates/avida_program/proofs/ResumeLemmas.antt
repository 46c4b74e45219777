-- How a saved world goes on, and how what it writes adds up.
use Rattle.std.proofs.Common.{◌≡◌, ◌<◌, ◌+◌, ℕ, Result, Ok, Err, refl, ap, ◌∙◌, add-one, subst}
use Rattle.avida_program.proofs.Prelude.{SinkState, SavedState, continued_text, later_texts, next_state, next_text, saved_state_after, end_text, SinkStop, WritesAll, Grows, part_stopped, part_written, update_after}
use Rattle.written_texts.proofs.WriteLemmas.{writes_short, writes_then}

-- no update, and one more
pub state_begun : (state : SavedState) → state ≡ saved_state_after state 0
unfolding saved_state_after
state_begun state = refl

-- the state after n + 1 updates is the next one of that after n
pub state_next : (state : SavedState) (n : ℕ)
    → saved_state_after state (n + 1) ≡ next_state (saved_state_after state n)
unfolding saved_state_after
state_next state n = ap (saved_state_after state) (add-one n)

-- the texts of the updates so far grow by the next one
later_grows : (state : SavedState) (more : ℕ)
    → Grows (later_texts state) (λ n. next_text (saved_state_after state n)) more
later_grows state more n within = ap (later_texts state) (add-one n)

-- one more update is written, or stopped
pub next_written : {T : Type 0} {a b c : SinkState} {r : Result T SinkStop}
    (state here : SavedState) (more n : ℕ) → n < more → here ≡ saved_state_after state n
    → WritesAll {T = Unit {0}} a b (later_texts state n) (Ok tt) → WritesAll b c (next_text here) r
    → WritesAll a c (later_texts state (n + 1)) r
next_written {T = T} {b = b} {c = c} {r = r} state here more n within at p q =
    part_written (later_texts state) (λ k. next_text (saved_state_after state k)) more n
    (later_grows state more) within p
    (subst (λ (s : SavedState). WritesAll {T = T} b c (next_text s) r) at q)

-- an update stopped before the last one
pub next_stopped : {T U : Type 0} {a b c : SinkState} {e : SinkStop}
    (state here : SavedState) (more n : ℕ) → n < more → here ≡ saved_state_after state n
    → WritesAll {T = Unit {0}} a b (later_texts state n) (Ok tt)
    → WritesAll {T = T} b c (next_text here) (Err e)
    → WritesAll {T = U} a c (later_texts state more) (Err e)
next_stopped {T = T} {b = b} {c = c} {e = e} state here more n within at p q =
    part_stopped (later_texts state) (λ k. next_text (saved_state_after state k)) more n
    (later_grows state more) within p
    (subst (λ (s : SavedState). WritesAll {T = T} b c (next_text s) (Err e)) at q)

-- the updates stopped
pub updates_stopped : {T U : Type 0} {a b : SinkState} {e : SinkStop} (state : SavedState)
    (more : ℕ) → WritesAll {T = T} a b (later_texts state more) (Err e)
    → WritesAll {T = U} a b (continued_text state more) (Err e)
unfolding continued_text
updates_stopped state more p = writes_short (end_text (state.head.update + more)) p

-- the last line is written, or stopped
pub end_written : {T U : Type 0} {a b c : SinkState} {u : U} {r : Result T SinkStop}
    (state after : SavedState) (more at : ℕ)
    → WritesAll {T = U} a b (later_texts state more) (Ok u) → WritesAll b c (end_text at) r
    → after ≡ saved_state_after state more → at ≡ after.head.update
    → WritesAll a c (continued_text state more) r
unfolding continued_text
end_written {T = T} {b = b} {c = c} {r = r} state after more at p q is now =
    let update : at ≡ state.head.update + more =
    now ∙ ap (λ (s : SavedState). s.head.update) is ∙ update_after state more in
    writes_then (end_text (state.head.update + more)) p
    (subst (λ k. WritesAll {T = T} b c (end_text k) r) update q)
