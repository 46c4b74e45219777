-- Each record that words draw applies, and its child has a length within the limits.
use Rattle.std.proofs.Common.{◌≡◌, refl, sym, ap, subst, ℕ, suc, ◌+◌, ◌*◌, ◌<◌, ◌≤◌, ◌^◌, eqb, ◌&&◌, List, [], ◌∷◌, ◌++◌, length, IsOkAnd, arith, append_assoc, length-append, lit<}
use Rattle.mutations.proofs.Prelude.{OneIndex, Letter, IsGenome, hits, scaled, Indel, Insertion, Deletion, IndelTest, letter_of_word, after_error, Drawn, none_by, in_turn, site_text, pointed_text, after_points, points_from, AreTextsOfChild, IsLengthWithin, RateNumbers, LengthRange, Draft, Spot, has_room, place_count, length_after, test_range, test_at, site_rate, single_rate, site_indel, indels_from, site_indels, single_indel, single_spot, indels, drawn_by_divide, origin_of, child_of, Makes, Fits}
use Rattle.std.proofs.Math.Nat.{div-lt_iff_lt-mul, mul-le-mul_left}
use Rattle.mutations.proofs.ChangeLemmas.{Makes-append, Makes-none}
use Rattle.mutations.proofs.IndelLemmas.{changes-resize, length_after-is, place-after, picked, second-passes, Room, with_indel, Makes-indel, Fits-indel, front_after, with_indel-middle, Room-middle, Makes-kept}
use Rattle.mutations.proofs.IndelKinds.{AreOfKind, site_indel-kind, site_indels-kind, indels-kind}
use Rattle.mutations.proofs.PointLemmas.{points-make}
use Rattle.mutations.proofs.BirthLemmas.{written_of-clean}

-- tests of places leave the length
pub length-site_text : (words : ℕ → ℕ) (rate k : ℕ) (text : List Letter)
    → length (site_text words rate k text) ≡ length text
length-site_text words rate k [] = refl
length-site_text words rate k (letter ∷ text) =
    ap suc (length-site_text words rate (after_error words rate k) text)

-- site points leave the length, whether they are drawn at all or not
pub length-pointed_text : (words : ℕ → ℕ) (rate k : ℕ) (text : List Letter)
    → length (pointed_text words rate k text) ≡ length text
length-pointed_text words rate k text = grind (arith, length-site_text words rate k text)

-- a word that is scaled to a number above 0 is below it
scaled-place : (word n : ℕ) → word < 2 ^ 32 → 0 < n → scaled word n < n
scaled-place word n fits some =
    let le : n * word ≤ n * 4294967295 = mul-le-mul_left n (omega arith) in
    let product : word * n < n * 2 ^ 32 = omega (arith, le) in
    (div-lt_iff_lt-mul (lit< tt)).1 product

-- a text that is not empty has a place for an indel
some-place : (kind : Indel) (len : ℕ) → 0 < len → 0 < place_count kind len
some-place Insertion len some = omega arith
some-place Deletion len some = some

-- a text of an allowed length that drawn changes make
pub record Made (range : LengthRange) (from : List Letter) (drawn : Drawn) : Type 0 where
  pub to : List Letter
  pub makes : Makes drawn.changes from to
  pub fits : Fits range (length to)

-- no change leaves the text
Made-none : (range : LengthRange) (k : ℕ) (text : List Letter) → Fits range (length text)
    → Made range text (none_by k)
Made-none range k text fits = record { to = text; makes = Makes-none text; fits = fits }

-- some changes after others
Made-append : (range : LengthRange) (one two : Drawn) (from : List Letter)
    (first : Made range from one) → Made range first.to two → Made range from (in_turn one two)
Made-append range one two from first second = record {
  to = second.to;
  makes = Makes-append one.changes two.changes from first.to second.to first.makes second.makes;
  fits = second.fits;
}

-- the length after drawn indels
Made-size : (kind : Indel) (range : LengthRange) (from : List Letter) (drawn : Drawn)
    (made : Made range from drawn) → AreOfKind kind drawn
    → length_after kind drawn.changes (length from) ≡ length made.to
Made-size kind range from drawn made kinds =
    length_after-is kind drawn.changes from made.to
    (changes-resize kind 1 drawn.changes from made.to kinds (made.makes.made 1))

-- the front of a text after the test of the letter behind it
record Front (range : LengthRange) (front : List Letter) (letter : Letter) (rest : List Letter)
    (here : Drawn) : Type 0 where
  pub done : List Letter
  pub makes : Makes here.changes (front ++ letter ∷ rest) (done ++ rest)
  pub fits : Fits range (length (done ++ rest))

-- the test of a letter
site_indel-front : (test : IndelTest) (words : ℕ → ℕ) (front : List Letter) (letter : Letter)
    (rest : List Letter) (k len : ℕ) → len ≡ length (front ++ letter ∷ rest)
    → Fits (test_range test) (length (front ++ letter ∷ rest))
    → Front (test_range test) front letter rest
    (site_indel test words len (record { place = length front; word = k }))
site_indel-front test words front letter rest k len size fits =
    let range : LengthRange = test_range test in
    let spot : Spot = record { place = length front; word = k + 1 } in
    let drawn : Letter = letter_of_word (words (k + 1)) in
    let middle = with_indel-middle test.kind drawn front letter rest in
    let kept = append_assoc front (letter ∷ []) rest in
    picked (Front range front letter rest)
    (hits (words k) test.rate && has_room test.kind range len) _ _
    (λ hit.
    let room : Room test.kind range (length front) (front ++ letter ∷ rest) =
    Room-middle test.kind range front letter rest fits
    (rw size at (second-passes (hits (words k) test.rate) (has_room test.kind range len) hit)) in
    record {
      done = front_after test.kind drawn front letter;
      makes = rw middle at
          (Makes-indel test.kind range words spot (front ++ letter ∷ rest) room);
      fits = rw middle at
          (Fits-indel test.kind range (length front) drawn (front ++ letter ∷ rest) room);
    })
    (record {
      done = front ++ letter ∷ [];
      makes = Makes-kept front letter rest;
      fits = rw kept fits;
    })

-- the tests of the last letters
indels_from-make : (test : IndelTest) (words : ℕ → ℕ) (front rest : List Letter) (k : ℕ)
    → Fits (test_range test) (length (front ++ rest)) → Made (test_range test) (front ++ rest)
    (indels_from test words (length rest) (record { place = length front; word = k }))
indels_from-make test words front [] k fits = Made-none (test_range test) k (front ++ []) fits
indels_from-make test words front (letter ∷ rest) k fits =
    let range : LengthRange = test_range test in
    let len : ℕ = length front + suc (length rest) in
    let spot : Spot = record { place = length front; word = k } in
    let here : Drawn = site_indel test words len spot in
    let size : len ≡ length (front ++ letter ∷ rest) = sym (length-append front (letter ∷ rest)) in
    let f : Front range front letter rest here =
    site_indel-front test words front letter rest k len size fits in
    let others : ℕ → Drawn =
    λ at. indels_from test words (length rest) (record { place = at; word = here.next }) in
    let place : length_after test.kind here.changes (length front + 1) ≡ length f.done =
    place-after test.kind here.changes front f.done rest letter
    (changes-resize test.kind 1 here.changes (front ++ letter ∷ rest) (f.done ++ rest)
    (site_indel-kind test words len spot) (f.makes.made 1)) in
    Made-append range here (others (length_after test.kind here.changes (length front + 1)))
    (front ++ letter ∷ rest) (record { to = f.done ++ rest; makes = f.makes; fits = f.fits })
    (rw place (indels_from-make test words f.done rest here.next f.fits))

-- the tests of all letters, where they are tested at all
site_indels-make : (test : IndelTest) (words : ℕ → ℕ) (text : List Letter) (k : ℕ)
    → Fits (test_range test) (length text) → Made (test_range test) text
    (site_indels test words (record { size = length text; word = k }))
site_indels-make test words text k fits =
    picked (Made (test_range test) text) (eqb test.rate 0) _ _
    (λ _. Made-none (test_range test) k text fits) (indels_from-make test words [] text k fits)

-- the test of a whole text
single_indel-make : (test : IndelTest) (words : ℕ → ℕ) → ((n : ℕ) → words n < 2 ^ 32)
    → (text : List Letter) (k : ℕ) → Fits (test_range test) (length text)
    → Made (test_range test) text
    (single_indel test words (record { size = length text; word = k }))
single_indel-make test words fits text k allowed =
    let range : LengthRange = test_range test in
    let len : ℕ = length text in
    let spot = single_spot test.kind words (record { size = len; word = k }) in
    let drawn : Letter = letter_of_word (words (k + 2)) in
    let place : spot.place < place_count test.kind len =
    scaled-place (words (k + 1)) (place_count test.kind len) (fits (k + 1))
    (some-place test.kind len (omega (arith, allowed.shortest, allowed.least))) in
    picked (Made range text) (hits (words k) test.rate && has_room test.kind range len) _ _
    (λ hit.
    let room : Room test.kind range spot.place text = record {
      fits = allowed;
      room = second-passes (hits (words k) test.rate) (has_room test.kind range len) hit;
      place = place;
    } in
    record {
      to = with_indel test.kind spot.place drawn text;
      makes = Makes-indel test.kind range words spot text room;
      fits = Fits-indel test.kind range spot.place drawn text room;
    })
    (Made-none range (k + 1) text allowed)

-- all indels of one kind
pub indels-make : (kind : Indel) (words : ℕ → ℕ) → ((n : ℕ) → words n < 2 ^ 32)
    → (rates : RateNumbers) (range : LengthRange) (text : List Letter) (k : ℕ)
    → Fits range (length text)
    → Made range text (indels kind rates range words (record { size = length text; word = k }))
indels-make kind words fits rates range text k allowed =
    let draft : Draft = record { size = length text; word = k } in
    let each : IndelTest = test_at kind (site_rate kind rates) range in
    let single : IndelTest = test_at kind (single_rate kind rates) range in
    let sites : Drawn = site_indels each words draft in
    let first : Made range text sites = site_indels-make each words text k allowed in
    let last : ℕ → Drawn =
    λ n. single_indel single words (record { size = n; word = sites.next }) in
    let size : length_after kind sites.changes (length text) ≡ length first.to =
    Made-size kind range text sites first (site_indels-kind each words draft) in
    Made-append range sites (last (length_after kind sites.changes (length text))) text first
    (rw size (single_indel-make single words fits first.to sites.next first.fits))

-- a child that drawn changes make
pub record Child (drawn : Drawn) (clean : List Letter) (limits : LengthRange) : Type 0 where
  pub to : List Letter
  pub makes : Makes drawn.changes clean to
  pub least : limits.least ≤ length to
  pub greatest : length to ≤ limits.greatest

module _ (one_index : OneIndex) where
  -- all changes of a birth
  pub drawn_by_divide-child : (words : ℕ → ℕ) → ((n : ℕ) → words n < 2 ^ 32)
      → (k : ℕ) (rates : RateNumbers) (limits : LengthRange) (clean written : List Letter)
      → 8 ≤ limits.least → limits.greatest ≤ 8192 → length clean ≡ length written
      → limits.least ≤ length written → length written ≤ limits.greatest
      → Child (drawn_by_divide words k rates limits clean written) clean limits
  unfolding drawn_by_divide
  drawn_by_divide-child words fits k rates limits clean written least most one_length shortest
      longest =
      let text : List Letter = pointed_text words rates.site_point k written in
      let size : length text ≡ length written =
      length-pointed_text words rates.site_point k written in
      let next : ℕ = after_points words rates.site_point k written in
      let genome : IsGenome clean = record { least = omega arith; greatest = omega arith } in
      let points : Makes (points_from 0 clean text) clean text =
      points-make one_index 0 [] clean text refl (omega arith) genome in
      let pointed : Draft = record { size = length written; word = next } in
      let at : ℕ → Draft = λ n. record { size = n; word = next } in
      let allowed : Fits limits (length text) =
      record {
        shortest = least;
        least = omega arith;
        greatest = omega arith;
        longest = most;
      } in
      let longer : Made limits text (indels Insertion rates limits words pointed) =
      subst (λ (n : ℕ). Made limits text (indels Insertion rates limits words (at n))) size
      (indels-make Insertion words fits rates limits text next allowed) in
      let I : Drawn = indels Insertion rates limits words pointed in
      let len : length_after Insertion I.changes (length written) ≡ length longer.to =
      subst (λ (n : ℕ). length_after Insertion I.changes n ≡ length longer.to) size
      (Made-size Insertion limits text I longer (indels-kind Insertion rates limits words pointed))
      in
      let D : ℕ → Drawn =
      λ n. indels Deletion rates limits words (record { size = n; word = I.next }) in
      let shorter : Made limits longer.to
      (D (length_after Insertion I.changes (length written))) =
      rw len (indels-make Deletion words fits rates limits longer.to I.next longer.fits) in
      record {
        to = shorter.to;
        makes = Makes-append (points_from 0 clean text ++ I.changes)
            (D (length_after Insertion I.changes (length written))).changes clean longer.to
            shorter.to (Makes-append (points_from 0 clean text) I.changes clean text longer.to
            points longer.makes) shorter.makes;
        least = shorter.fits.least;
        greatest = shorter.fits.greatest;
      }

  -- the record of a birth applies
  pub origin_of-applies : (words : ℕ → ℕ) → ((n : ℕ) → words n < 2 ^ 32)
      → (k : ℕ) (rates : RateNumbers) (limits : LengthRange) (clean written parent : List Letter)
      → 8 ≤ limits.least → limits.greatest ≤ 8192 → AreTextsOfChild limits clean written
      → IsOkAnd (child_of parent (origin_of words k rates limits clean written parent))
      (IsLengthWithin limits)
  origin_of-applies words fits k rates limits clean written parent least most texts =
      let child : Child (drawn_by_divide words k rates limits clean written) clean limits =
      drawn_by_divide-child words fits k rates limits clean written least most texts.one_length
      texts.within.least texts.within.greatest in
      rw (written_of-clean one_index clean parent, child.makes.made 1)
      (record { least = child.least; greatest = child.greatest })
