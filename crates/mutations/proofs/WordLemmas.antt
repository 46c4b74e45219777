-- How many words the errors of a divide take.
use Rattle.std.proofs.Common.{◌≡◌, refl, ℕ, zero, suc, ◌+◌, ◌*◌, ◌≤◌, Bool, true, false, cond, eqb, List, [], ◌∷◌, ◌++◌, length, arith, length-append}
use Rattle.mutations.proofs.Prelude.{Letter, Change, Indel, Insertion, Deletion, IndelTest, after_error, Drawn, none_by, after_sites, after_points, RateNumbers, LengthRange, Draft, Spot, indel_at, length_after, draft_after, test_at, site_rate, single_rate, site_indel, indels_from, site_indels, single_indel, single_spot, indels, drawn_by_divide}
use Rattle.mutations.proofs.IndelLemmas.{picked}

-- the words that the letters of so many indels take
abbrev letter_words : Indel → ℕ → ℕ
letter_words Insertion count = count
letter_words Deletion count = 0

-- the words of the letters of some changes and of the changes after them add up
letter_words-in_turn : (kind : Indel) (first more : List Change)
    → letter_words kind (length (first ++ more))
    ≡ letter_words kind (length first) + letter_words kind (length more)
letter_words-in_turn Insertion first more = length-append first more
letter_words-in_turn Deletion first more = refl

-- at most so many changes, and a next word from one on to another and one for each letter put in
record Takes (kind : Indel) (from to count : ℕ) (drawn : Drawn) : Type 0 where
  pub least : from ≤ drawn.next
  pub most : drawn.next ≤ to + letter_words kind (length drawn.changes)
  pub few : length drawn.changes ≤ count

-- no indel
Takes-none : (kind : Indel) (from k to count : ℕ) → from ≤ k → k ≤ to
    → Takes kind from to count (none_by k)
Takes-none kind from k to count least most =
    record { least = omega arith; most = omega arith; few = omega arith }

-- an indel at a spot, or none
indel-words : (kind : Indel) (hit : Bool) (words : ℕ → ℕ) (spot : Spot) (k : ℕ) → k ≤ spot.word
    → Takes kind k spot.word 1 (cond hit (indel_at kind words spot) (none_by k))
indel-words kind false words spot k le = Takes-none kind k k spot.word 1 (omega arith) le
indel-words Insertion true words spot k le =
    record { least = omega arith; most = omega arith; few = omega arith }
indel-words Deletion true words spot k le =
    record { least = omega arith; most = omega arith; few = omega arith }

-- the tests of the last letters
indels_from-words : (test : IndelTest) (words : ℕ → ℕ) (left : ℕ) (spot : Spot)
    → Takes test.kind (spot.word + left) (spot.word + left) left (indels_from test words left spot)
indels_from-words test words zero spot =
    Takes-none test.kind _ spot.word _ 0 (omega arith) (omega arith)
indels_from-words test words (suc left) spot =
    let here : Drawn = site_indel test words (spot.place + suc left) spot in
    let next : Spot =
    record { place = length_after test.kind here.changes (spot.place + 1); word = here.next } in
    let others : Drawn = indels_from test words left next in
    let a : Takes test.kind (spot.word + 1) (spot.word + 1) 1 here =
    indel-words test.kind _ words (record { place = spot.place; word = spot.word + 1 })
    (spot.word + 1) (omega arith) in
    let b = indels_from-words test words left next in
    let letters = letter_words-in_turn test.kind here.changes others.changes in
    record {
      least = omega (arith, a, b);
      most = omega (arith, a, b, letters);
      few = omega (arith, a, b, length-append here.changes others.changes);
    }

-- the tests of all letters take at most a word each, and one for each letter put in
site_indels-words : (test : IndelTest) (words : ℕ → ℕ) (draft : Draft)
    → Takes test.kind draft.word (draft.word + draft.size) draft.size
    (site_indels test words draft)
site_indels-words test words draft =
    let tests = indels_from-words test words draft.size (record { place = 0; word = draft.word }) in
    picked (Takes test.kind draft.word (draft.word + draft.size) draft.size) (eqb test.rate 0) _ _
    (λ _. Takes-none test.kind _ draft.word _ draft.size (omega arith) (omega arith))
    (record { least = omega (arith, tests); most = tests.most; few = tests.few })

-- the words that all indels of one kind take, and how many indels these are at most
indels-words : (kind : Indel) (rates : RateNumbers) (range : LengthRange) (words : ℕ → ℕ)
    (draft : Draft) → Takes kind (draft.word + 1) (draft.word + draft.size + 2) (draft.size + 1)
    (indels kind rates range words draft)
indels-words kind rates range words draft =
    let each : IndelTest = test_at kind (site_rate kind rates) range in
    let last : IndelTest = test_at kind (single_rate kind rates) range in
    let sites : Drawn = site_indels each words draft in
    let left : Draft = draft_after kind sites draft in
    let single : Drawn = single_indel last words left in
    let a : Takes kind draft.word (draft.word + draft.size) draft.size sites =
    site_indels-words each words draft in
    let b : Takes kind (sites.next + 1) (sites.next + 2) 1 single =
    indel-words kind _ words (single_spot kind words left) (sites.next + 1) (omega arith) in
    let letters = letter_words-in_turn kind sites.changes single.changes in
    record {
      least = omega (arith, a, b);
      most = omega (arith, a, b, letters);
      few = omega (arith, a, b, length-append sites.changes single.changes);
    }

-- site points
after_sites-words : (words : ℕ → ℕ) (rate k : ℕ) (text : List Letter)
    → (k ≤ after_sites words rate k text) × (after_sites words rate k text ≤ k + 2 * length text)
after_sites-words words rate k [] = (omega arith, omega arith)
after_sites-words words rate k (letter ∷ text) =
    let others = after_sites-words words rate (after_error words rate k) text in
    (grind (arith, others.0), grind (arith, others.1))

-- all errors of a divide
pub drawn_by_divide-words : (words : ℕ → ℕ) (k : ℕ) (rates : RateNumbers) (range : LengthRange)
    (clean written : List Letter) (taken : ℕ)
    → taken ≡ (drawn_by_divide words k rates range clean written).next
    → (k + 2 ≤ taken) × (taken ≤ k + 6 * length written + 6)
unfolding drawn_by_divide
drawn_by_divide-words words k rates range clean written taken is =
    let next : ℕ = after_points words rates.site_point k written in
    let sites = after_sites-words words rates.site_point k written in
    let first : k ≤ next = grind (arith, sites.0) in
    let last : next ≤ k + 2 * length written = grind (arith, sites.1) in
    let pointed : Draft = record { size = length written; word = next } in
    let inserted : Drawn = indels Insertion rates range words pointed in
    let longer : Draft = draft_after Insertion inserted pointed in
    let deleted : Drawn = indels Deletion rates range words longer in
    let a = indels-words Insertion rates range words pointed in
    let b = indels-words Deletion rates range words longer in
    let end : taken ≡ deleted.next = is in (
      omega (arith, first, a.least, b.least, end),
      omega (arith, last, a.most, a.few, b.most, end),
    )
