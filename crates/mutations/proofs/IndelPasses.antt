-- What functions have done that test a text for indels.
use Rattle.std.proofs.Common.{◌≡◌, sym, ◌∙◌, ap, subst, ℕ, suc, ◌+◌, ◌-◌, ◌<◌, true, ◌&&◌, List, [], ◌∷◌, ◌++◌, length, drop, arith, append-nil, length-append, length-drop, get_or}
use Rattle.mutations.proofs.Prelude.{Letter, NopA, Stream, word_of, next_word, hits, Indel, IndelTest, letter_of_word, Drawn, RateNumbers, LengthRange, Draft, Spot, has_room, indel_at, length_after, draft_after, test_range, test_at, site_rate, single_rate, site_indel, indels_from, site_indels, single_indel, indels, PassState, Passed, Fits}
use Rattle.mutations.proofs.ChangeLemmas.{Left, Left-next, Left-none, Passed-append, drop-here}
use Rattle.mutations.proofs.IndelLemmas.{changes-resize, length_after-is, place-after, second-passes, Room, with_indel, Makes-indel, front_after, with_indel-middle, Room-middle}
use Rattle.mutations.proofs.IndelKinds.{AreOfKind, site_indel-kind, site_indels-kind}

-- work whose text goes on
abbrev pub with_rest : PassState → List Letter → PassState
with_rest work rest = record work { text = work.text ++ rest }

-- what is written down of an indel at a spot
pub record Notes (kind : Indel) (spot : Spot) (before after : PassState) : Type 0 where
  pub changes : after.changes
      ≡ before.changes ++ (indel_at kind (word_of before.draws) spot).changes
  pub draws : after.draws
      ≡ record before.draws { taken = (indel_at kind (word_of before.draws) spot).next }

-- an indel that was drawn of a text
Passed-indel : (kind : Indel) (range : LengthRange) (spot : Spot) (before after : PassState)
    → Room kind range spot.place before.text
    → with_indel kind spot.place (letter_of_word (word_of before.draws spot.word)) before.text
    ≡ after.text → Notes kind spot before after
    → Passed (indel_at kind (word_of before.draws) spot) before after
Passed-indel kind range spot before after room made notes = record {
  made = rw made at (Makes-indel kind range (word_of before.draws) spot before.text room);
  noted = notes.changes;
  taken = notes.draws;
}

-- the test of a letter drew an indel
pub Passed-site : (test : IndelTest) (kind : Indel) (done next : PassState) (letter : Letter)
    (rest : List Letter) (len : ℕ) → test.kind ≡ kind
    → length done.text + suc (length rest) ≡ len → Fits (test_range test) len
    → (hits (next_word done.draws) test.rate && has_room test.kind (test_range test) len) ≡ true
    → next.text ≡ front_after kind
    (letter_of_word (word_of done.draws (done.draws.taken + 1))) done.text letter
    → Notes kind (record { place = length done.text; word = done.draws.taken + 1 }) done next
    → Passed (site_indel test (word_of done.draws) len
    (record { place = length done.text; word = done.draws.taken }))
    (with_rest done (letter ∷ rest)) (with_rest next rest)
Passed-site test kind done next letter rest len is size fits hit text notes =
    let words : ℕ → ℕ = word_of done.draws in
    let spot : Spot = record { place = length done.text; word = done.draws.taken + 1 } in
    let drawn : Letter = letter_of_word (words (done.draws.taken + 1)) in
    let whole : len ≡ length (done.text ++ letter ∷ rest) =
    omega (arith, length-append done.text (letter ∷ rest)) in
    let room : has_room kind (test_range test) (length (done.text ++ letter ∷ rest)) ≡ true =
    rw (whole, is) at (second-passes (hits (next_word done.draws) test.rate)
    (has_room test.kind (test_range test) len) hit) in
    let here : Room kind (test_range test) (length done.text) (done.text ++ letter ∷ rest) =
    Room-middle kind (test_range test) done.text letter rest (rw whole at fits) room in
    let made : with_indel kind (length done.text) drawn (done.text ++ letter ∷ rest)
    ≡ next.text ++ rest = with_indel-middle kind drawn done.text letter rest
    ∙ ap (λ (front : List Letter). front ++ rest) (sym text) in
    rw (hit, is) (Passed-indel kind (test_range test) spot (with_rest done (letter ∷ rest))
    (with_rest next rest) here made
    (record { changes = notes.changes; draws = notes.draws }))

-- what is left of the tests of a text, the rest of it being `rest`
abbrev pub IndelsLeft : IndelTest → Drawn → PassState → PassState → List Letter → Type 0
IndelsLeft test whole start done rest =
    Left (indels_from test (word_of start.draws) (length rest)
    (record { place = length done.text; word = done.draws.taken })) whole start
    (with_rest done rest)

-- one letter further
IndelsLeft-next : (test : IndelTest) (whole : Drawn) (start done next : PassState) (letter : Letter)
    (rest : List Letter)
    → Passed (site_indel test (word_of done.draws) (length done.text + suc (length rest))
    (record { place = length done.text; word = done.draws.taken }))
    (with_rest done (letter ∷ rest)) (with_rest next rest)
    → IndelsLeft test whole start done (letter ∷ rest) → IndelsLeft test whole start next rest
IndelsLeft-next test whole start done next letter rest passed left =
    let words : ℕ → ℕ = word_of start.draws in
    let len : ℕ = length done.text + suc (length rest) in
    let spot : Spot = record { place = length done.text; word = done.draws.taken } in
    let here : Drawn = site_indel test words len spot in
    let from : PassState = with_rest done (letter ∷ rest) in
    let to : PassState = with_rest next rest in
    let p : Passed here from to = subst (λ (w : ℕ → ℕ). Passed (site_indel test w len spot) from to)
    (ap word_of left.stream) passed in
    let place : length_after test.kind here.changes (length done.text + 1) ≡ length next.text =
    place-after test.kind here.changes done.text next.text rest letter
    (changes-resize test.kind 1 here.changes from.text to.text (site_indel-kind test words len spot)
    (p.made.made 1)) in
    let taken : here.next ≡ next.draws.taken = sym (ap (λ (s : Stream). s.taken) p.taken) in
    let others : ℕ → ℕ → Drawn =
    λ at k. indels_from test words (length rest) (record { place = at; word = k }) in
    rw (place, taken) at (Left-next here
    (others (length_after test.kind here.changes (length done.text + 1)) here.next)
    whole start from to p left)

-- one step of the loop over a text
pub IndelsLeft-step : (test : IndelTest) (whole : Drawn) (start done next : PassState)
    (text : List Letter) (at : ℕ) → at < length text
    → Passed (site_indel test (word_of done.draws) (length done.text + (length text - at))
    (record { place = length done.text; word = done.draws.taken }))
    (with_rest done (get_or text at NopA ∷ drop (at + 1) text))
    (with_rest next (drop (at + 1) text))
    → IndelsLeft test whole start done (drop at text)
    → IndelsLeft test whole start next (drop (at + 1) text)
IndelsLeft-step test whole start done next text at inside passed left =
    let rest : List Letter = drop (at + 1) text in
    let letter : Letter = get_or text at NopA in
    let spot : Spot = record { place = length done.text; word = done.draws.taken } in
    let size : length text - at ≡ suc (length rest) =
    omega (arith, length-drop (at + 1) text) in
    let p : Passed (site_indel test (word_of done.draws) (length done.text + suc (length rest))
    spot) (with_rest done (letter ∷ rest)) (with_rest next rest) =
    rw size at passed in
    IndelsLeft-next test whole start done next letter rest p
    (subst (λ (r : List Letter). IndelsLeft test whole start done r) (drop-here text at inside)
    left)

-- no letter is left
pub IndelsLeft-end : (test : IndelTest) (whole : Drawn) (start done : PassState)
    (rest : List Letter)
    → rest ≡ [] → IndelsLeft test whole start done rest → Passed whole start done
IndelsLeft-end test whole start done rest none left =
    Left-none whole start done (rw (none, append-nil) at left)

-- the length after drawn indels
pub size-after : (kind : Indel) (drawn : Drawn) (before after : PassState) → AreOfKind kind drawn
    → Passed drawn before after
    → length_after kind drawn.changes (length before.text) ≡ length after.text
size-after kind drawn before after kinds passed =
    length_after-is kind drawn.changes before.text after.text
    (changes-resize kind 1 drawn.changes before.text after.text kinds (passed.made.made 1))

-- what is drawn next, after indels were
pub draft-passed : (kind : Indel) (f : (ℕ → ℕ) → Draft → Drawn) (drawn : Drawn)
    (before between after : PassState) → AreOfKind kind drawn → Passed drawn before between
    → Passed (f (word_of between.draws)
    (record { size = length between.text; word = between.draws.taken })) between after
    → Passed (f (word_of before.draws) (draft_after kind drawn
    (record { size = length before.text; word = before.draws.taken }))) between after
draft-passed kind f drawn before between after kinds first second =
    rw (size-after kind drawn before between kinds first)
    (subst (λ (s : Stream).
    Passed (f (word_of s) (record { size = length between.text; word = s.taken })) between after)
    first.taken second)

-- the tests of all letters, and then that of the whole text
pub indels-passed : (kind : Indel) (rates : RateNumbers) (range : LengthRange)
    (each single : IndelTest) (before between after : PassState)
    → each ≡ test_at kind (site_rate kind rates) range
    → single ≡ test_at kind (single_rate kind rates) range
    → Passed (site_indels each (word_of before.draws)
    (record { size = length before.text; word = before.draws.taken })) before between
    → Passed (single_indel single (word_of between.draws)
    (record { size = length between.text; word = between.draws.taken })) between after
    → Passed (indels kind rates range (word_of before.draws)
    (record { size = length before.text; word = before.draws.taken })) before after
indels-passed kind rates range each single before between after is_each is_single first second =
    let draft : Draft = record { size = length before.text; word = before.draws.taken } in
    let a : IndelTest = test_at kind (site_rate kind rates) range in
    let b : IndelTest = test_at kind (single_rate kind rates) range in
    let sites : Drawn = site_indels a (word_of before.draws) draft in
    let one : Passed sites before between = rw is_each at first in
    let two : Passed (single_indel b (word_of between.draws)
    (record { size = length between.text; word = between.draws.taken })) between after =
    rw is_single at second in
    Passed-append sites (single_indel b (word_of before.draws) (draft_after kind sites draft))
    before between after one
    (draft-passed kind (single_indel b) sites before between after
    (site_indels-kind a (word_of before.draws) draft) one two)
