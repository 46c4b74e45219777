-- Records that words draw have the form of a record in a log.
use Rattle.std.proofs.Common.{◌≡◌, refl, ◌∙◌, ap, ℕ, ◌+◌, ◌<◌, ◌≤◌, ◌^◌, Bool, true, false, cond, ◌&&◌, List, [], ◌∷◌, ◌++◌, length, append_assoc, Ok, None, Some, arith, IfSome}
use Rattle.mutations.proofs.Prelude.{OneIndex, AllByRecursion, Letter, same_letter, same_letters, Change, Point, Insert, Delete, Place, Length, text_after, with_change, has_place, is_genome_length, AreTextsOfChild, RateNumbers, LengthRange, Insertion, Deletion, Drawn, pointed_text, after_points, points_from, Draft, indels, draft_after, drawn_by_divide, origin_of}
use Rattle.std.proofs.lemmas.Bool.Decides.{nat_tests}
use Rattle.mutations.specs.RecordForm.{HasGenomeLength, IsSmall, FitsChange, change_may_follow, in_order, HasRecordForm}
use Rattle.mutations.proofs.ChangeLemmas.{step-made}
use Rattle.mutations.proofs.IndelLemmas.{IsIndel}
use Rattle.mutations.proofs.IndelKinds.{indels-kind}
use Rattle.mutations.proofs.LawLemmas.{Child, drawn_by_divide-child}

-- a genome's length
length-fits : (len : ℕ) → is_genome_length len ≡ true → len ≤ 8192
length-fits len fits = grind (arith, nat_tests)

-- a length from 8 to 8192 is a genome's
genome-length : (len : ℕ) → 8 ≤ len → len ≤ 8192 → is_genome_length len ≡ true
genome-length len least most = grind (arith, nat_tests)

-- a place of a text that is not too long
fits-place : (at len : ℕ) → at ≤ len → len ≤ 8192 → IsSmall at
fits-place at len place longest = (omega arith, omega arith)

-- a change that has its place
fits-change : (change : Change) (len : ℕ) → has_place change len ≡ true → len ≤ 8192
    → FitsChange change
fits-change (Point at letter) len placed longest =
    let lt : at < len = grind arith in fits-place at len (omega arith) longest
fits-change (Insert at letter) len placed longest =
    let le : at ≤ len = grind arith in fits-place at len le longest
fits-change (Delete at) len placed longest =
    let lt : at < len = grind arith in fits-place at len (omega arith) longest

-- the places of changes that apply
fits-changes : (nth : ℕ) (changes : List Change) (text made : List Letter) → length text ≤ 8192
    → text_after nth changes text ≡ Ok made → AllByRecursion FitsChange changes
fits-changes nth [] text made longest applies = tt
fits-changes nth (change ∷ changes) text made longest applies =
    let step = step-made (has_place change (length text))
    (is_genome_length (length (with_change change text))) _ (Place nth)
    (Length nth) made applies in
    let fits : is_genome_length (length (with_change change text)) ≡ true = step.1 in
    let next : length (with_change change text) ≤ 8192 =
    length-fits (length (with_change change text)) fits in (
      fits-change change (length text) step.0 longest,
      fits-changes (nth + 1) changes (with_change change text) made next step.2,
    )

-- whether the first of some changes may follow this one
abbrev leads : Change → List Change → Bool
leads change [] = true
leads change (next ∷ changes) = change_may_follow change next

-- a change before others
order-cons : (change : Change) (changes : List Change) → leads change changes ≡ true
    → in_order changes ≡ true → in_order (change ∷ changes) ≡ true
order-cons change [] first others = refl
order-cons change (next ∷ changes) first others =
    ap (λ b. b && in_order (next ∷ changes)) first ∙ others

-- deletions alone
order-deletes : (changes : List Change) → AllByRecursion (IsIndel Deletion) changes
    → in_order changes ≡ true
order-deletes [] all = refl
order-deletes (Delete at ∷ []) all = refl
order-deletes (Delete at ∷ Delete next ∷ changes) all = order-deletes (Delete next ∷ changes) all.1
order-deletes (Delete at ∷ _ ∷ changes) all = absurd all.1.0
order-deletes (_ ∷ changes) all = absurd all.0

-- deletions may come after anything but a point before them
leads-deletes : (at : ℕ) (letter : Letter) (changes : List Change)
    → AllByRecursion (IsIndel Deletion) changes
    → (leads (Insert at letter) changes ≡ true) × (leads (Point at letter) changes ≡ true)
leads-deletes at letter [] all = (refl, refl)
leads-deletes at letter (Delete next ∷ changes) all = (refl, refl)
leads-deletes at letter (_ ∷ changes) all = absurd all.0

-- insertions, then deletions, behind points
pub record IsTail (changes : List Change) : Type 0 where
  pub order : in_order changes ≡ true
  pub after_insert : (at : ℕ) (letter : Letter) → leads (Insert at letter) changes ≡ true
  pub after_point : (at : ℕ) (letter : Letter) → leads (Point at letter) changes ≡ true

-- insertions with deletions behind them may come behind points
tail : (longer shorter : List Change) → AllByRecursion (IsIndel Insertion) longer
    → AllByRecursion (IsIndel Deletion) shorter → IsTail (longer ++ shorter)
tail [] shorter inserts deletes = record {
  order = order-deletes shorter deletes;
  after_insert = λ at letter. (leads-deletes at letter shorter deletes).0;
  after_point = λ at letter. (leads-deletes at letter shorter deletes).1;
}
tail (Insert at letter ∷ longer) shorter inserts deletes =
    let others : IsTail (longer ++ shorter) = tail longer shorter inserts.1 deletes in
    record {
      order = order-cons (Insert at letter) (longer ++ shorter) (others.after_insert at letter)
          others.order;
      after_insert = λ _ _. refl;
      after_point = λ _ _. refl;
    }
tail (_ ∷ longer) shorter inserts deletes = absurd inserts.0

-- changes that may come after points before a place
pub record GoesOn (at : ℕ) (changes : List Change) : Type 0 where
  pub order : in_order changes ≡ true
  pub after_point : (before : ℕ) (letter : Letter) → before < at
      → leads (Point before letter) changes ≡ true

-- a point at a place, or none, before such changes
goes_on-next : (alike : Bool) (at : ℕ) (letter : Letter) (points rest : List Change)
    → GoesOn (at + 1) (points ++ rest)
    → GoesOn at (cond alike points (Point at letter ∷ points) ++ rest)
goes_on-next true at letter points rest others = record {
  order = others.order;
  after_point = λ before was h. others.after_point before was (omega arith);
}
goes_on-next false at letter points rest others = record {
  order = order-cons (Point at letter) (points ++ rest) (others.after_point at letter (omega arith))
      others.order;
  after_point = λ before was h. grind (arith, nat_tests);
}

-- the points of a text come in rising order before the others
points-order : (at : ℕ) (clean text : List Letter) (rest : List Change) → IsTail rest
    → GoesOn at (points_from at clean text ++ rest)
points-order at (was ∷ clean) (letter ∷ text) rest others =
    goes_on-next (same_letter was letter) at letter (points_from (at + 1) clean text) rest
    (points-order (at + 1) clean text rest others)
points-order at _ _ rest others =
    record { order = others.order; after_point = λ before was h. others.after_point before was }

-- all changes of a birth are in order
drawn-order : (words : ℕ → ℕ) (k : ℕ) (rates : RateNumbers) (limits : LengthRange)
    (clean written : List Letter)
    → in_order (drawn_by_divide words k rates limits clean written).changes ≡ true
unfolding drawn_by_divide
drawn-order words k rates limits clean written =
    let text : List Letter = pointed_text words rates.site_point k written in
    let next : ℕ = after_points words rates.site_point k written in
    let pointed : Draft = record { size = length written; word = next } in
    let longer : Drawn = indels Insertion rates limits words pointed in
    let left : Draft = draft_after Insertion longer pointed in
    let shorter : Drawn = indels Deletion rates limits words left in
    let others : IsTail (longer.changes ++ shorter.changes) =
    tail longer.changes shorter.changes (indels-kind Insertion rates limits words pointed)
    (indels-kind Deletion rates limits words left) in
    let all : GoesOn 0 (points_from 0 clean text ++ (longer.changes ++ shorter.changes)) =
    points-order 0 clean text (longer.changes ++ shorter.changes) others in
    ap in_order (append_assoc (points_from 0 clean text) longer.changes shorter.changes) ∙ all.order

-- the base of a record
fits-base : (same : Bool) (clean : List Letter) → is_genome_length (length clean) ≡ true
    → IfSome (cond same None (Some clean)) HasGenomeLength
fits-base true clean genome = tt
fits-base false clean genome = genome

-- the record of a birth has the form
pub origin_of-form : OneIndex → (words : ℕ → ℕ) → ((n : ℕ) → words n < 2 ^ 32)
    → (k : ℕ) (rates : RateNumbers) (limits : LengthRange) (clean written parent : List Letter)
    → 8 ≤ limits.least → limits.greatest ≤ 8192 → AreTextsOfChild limits clean written
    → HasRecordForm (origin_of words k rates limits clean written parent)
origin_of-form one_index words fits k rates limits clean written parent least most texts =
    let shortest : limits.least ≤ length clean =
    omega (arith, texts.one_length, texts.within.least) in
    let longest : length clean ≤ limits.greatest =
    omega (arith, texts.one_length, texts.within.greatest) in
    let child : Child (drawn_by_divide words k rates limits clean written) clean limits =
    drawn_by_divide-child one_index words fits k rates limits clean written least most
    texts.one_length texts.within.least texts.within.greatest in
    let genome : is_genome_length (length clean) ≡ true =
    genome-length (length clean) (omega arith) (omega arith) in
    record {
      base = fits-base (same_letters clean parent) clean genome;
      changes = fits-changes 1 (drawn_by_divide words k rates limits clean written).changes clean
          child.to (omega arith) (child.makes.made 1);
      order = drawn-order words k rates limits clean written;
    }
