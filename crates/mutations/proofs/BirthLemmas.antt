-- The record of a birth and the child that it makes.
use Rattle.std.proofs.Common.{◌≡◌, refl, sym, ℕ, inl, inr, List, [], length, Ok, unwrap_or, Option, IsNone, ◌↔◌}
use Rattle.mutations.proofs.Prelude.{OneIndex, Decides, Letter, same_letters, Stream, word_of, Change, RateNumbers, LengthRange, Insertion, Deletion, Drawn, in_turn, pointed_text, after_points, points_from, Draft, indels, draft_after, drawn_by_divide, written_of, child_of, Makes, PassState, Passed}
use Rattle.std.proofs.lemmas.Bool.{cases_Bool}
use Rattle.std.proofs.lemmas.Slice.Eq.{slice_eq-Decides}
use Rattle.mutations.proofs.ChangeLemmas.{Passed-append}
use Rattle.mutations.proofs.IndelKinds.{indels-kind}
use Rattle.mutations.proofs.IndelPasses.{draft-passed}

-- what is drawn by a stream and a length goes on with equal ones
moved : (F : Stream → ℕ → Drawn) (stream there : Stream) (len size : ℕ) (from to : PassState)
    → stream ≡ there → len ≡ size → Passed (F stream len) from to → Passed (F there size) from to
moved F stream there len size from to streams sizes passed =
    rw (streams, sizes) at passed

-- a text that has its site points, and the changes that tell them
pub record Pointed (rate : ℕ) (clean written : List Letter) (before : Stream) (pointed : PassState)
    : Type 0 where
  pub text : pointed.text ≡ pointed_text (word_of before) rate before.taken written
  pub taken : pointed.draws
      ≡ record before { taken = after_points (word_of before) rate before.taken written }
  pub same_length : length pointed.text ≡ length written
  pub changes : pointed.changes ≡ points_from 0 clean pointed.text
  pub made : Makes pointed.changes clean pointed.text

-- the points, then the insertions, then the deletions
pub drawn_by_divide-passed : (rates : RateNumbers) (range : LengthRange)
    (clean written : List Letter) (before : Stream) (pointed longer child : PassState)
    → Pointed rates.site_point clean written before pointed
    → Passed (indels Insertion rates range (word_of pointed.draws)
    (record { size = length pointed.text; word = pointed.draws.taken })) pointed longer
    → Passed (indels Deletion rates range (word_of longer.draws)
    (record { size = length longer.text; word = longer.draws.taken })) longer child
    → Passed (drawn_by_divide (word_of before) before.taken rates range clean written)
    (record { text = clean; changes = []; draws = before }) child
unfolding drawn_by_divide
drawn_by_divide-passed rates range clean written before pointed longer child points inserts
    deletes =
    let start : PassState = record { text = clean; changes = []; draws = before } in
    let next : ℕ = after_points (word_of before) rates.site_point before.taken written in
    let there : Stream = record before { taken = next } in
    let first : Drawn = record { changes = points_from 0 clean pointed.text; next = next } in
    let one : Passed first start pointed =
    record {
      made = rw points.changes at points.made;
      noted = points.changes;
      taken = points.taken;
    } in
    let draft : Stream → ℕ → Draft = λ s n. record { size = n; word = s.taken } in
    let I : Stream → ℕ → Drawn = λ s n. indels Insertion rates range (word_of s) (draft s n) in
    let D : Stream → ℕ → Drawn =
    λ s n. indels Deletion rates range (word_of s) (draft_after Insertion (I s n) (draft s n)) in
    let two : Passed (I there (length written)) pointed longer =
    moved I pointed.draws there (length pointed.text) (length written) pointed longer points.taken
    points.same_length inserts in
    let after : Passed (D pointed.draws (length pointed.text)) longer child =
    draft-passed Insertion (indels Deletion rates range) (I pointed.draws (length pointed.text))
    pointed longer child
    (indels-kind Insertion rates range (word_of pointed.draws)
    (draft pointed.draws (length pointed.text))) inserts deletes in
    let three : Passed (D there (length written)) longer child =
    moved D pointed.draws there (length pointed.text) (length written) longer child points.taken
    points.same_length after in
    let both : Passed (in_turn first (I there (length written))) start longer =
    Passed-append first (I there (length written)) start pointed longer one two in
    let all : Passed (in_turn (in_turn first (I there (length written)))
    (D there (length written))) start child =
    Passed-append (in_turn first (I there (length written))) (D there (length written)) start longer
    child both three in
    rw (← points.text) all

module _ (one_index : OneIndex) where
  -- the base's text is the clean text, whichever base it is
  pub written_of-clean : (clean parent : List Letter)
      → unwrap_or (written_of clean parent) parent ≡ clean
  written_of-clean clean parent =
      let decides : Decides (same_letters clean parent) (clean ≡ parent) =
      slice_eq-Decides one_index clean parent _ refl in
      elim (cases_Bool (same_letters clean parent)) [
        | inl same ↦ rw same (sym (decides.0 same))
        | inr other ↦ rw other
      ]

  -- there is no written text just where the clean text is the parent's genome
  pub written_of-none : (clean parent : List Letter) → IsNone (written_of clean parent)
      ↔ (clean ≡ parent)
  written_of-none clean parent =
      let decides : Decides (same_letters clean parent) (clean ≡ parent) =
      slice_eq-Decides one_index clean parent _ refl in
      elim (cases_Bool (same_letters clean parent)) [
        | inl same ↦ rw same (λ _. decides.0 same, λ _. refl)
        | inr other ↦ rw other (λ h. absurd cc, λ e. absurd (let is = decides.1 e in cc))
      ]

  -- the record's changes make the child of its base
  pub child_of-made : (parent clean made : List Letter) (written : Option (List Letter))
      (drawn : Drawn) (changes : List Change) (before after : Stream)
      → written ≡ written_of clean parent
      → Passed drawn (record { text = clean; changes = []; draws = before })
      (record { text = made; changes = changes; draws = after })
      → child_of parent (record { written = written; changes = changes }) ≡ Ok made
  child_of-made parent clean made written drawn changes before after is_written passed =
      rw (is_written, written_of-clean clean parent, passed.noted, passed.made.made 1)
