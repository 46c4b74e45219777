-- Indels, drawn one at a time: what they make of a text.
use Rattle.std.proofs.Common.{◌≡◌, refl, sym, ◌∙◌, ap, ℕ, ◌+◌, ◌<◌, ◌≤◌, Bool, true, false, cond, ltb, ◌&&◌, List, [], ◌∷◌, ◌++◌, length, Ok, arith, append_assoc, length-append}
use Rattle.mutations.proofs.Prelude.{AllByRecursion, insert, remove, Letter, Change, Insert, Delete, Indel, Insertion, Deletion, Place, Length, text_after, with_change, has_place, is_genome_length, Makes, Fits, letter_of_word, Drawn, LengthRange, Spot, has_room, place_count, indel_at, length_after}
use Rattle.std.proofs.lemmas.List.Edits.{length-insert, length-remove}
use Rattle.mutations.proofs.ChangeLemmas.{Makes-one, Makes-none, step-made}

-- an indel of this kind
abbrev pub IsIndel : Indel → Change → Type 0
IsIndel Insertion (Insert at letter) = Unit {0}
IsIndel Deletion (Delete at) = Unit {0}
IsIndel _ _ = ⊥

-- what a list of changes makes longer or shorter by as many letters
abbrev pub Resized : Indel → List Change → List Letter → List Letter → Type 0
Resized Insertion changes from to = length to ≡ length from + length changes
Resized Deletion changes from to = length to + length changes ≡ length from

-- changes of one kind change the length by as many letters
pub changes-resize : (kind : Indel) (nth : ℕ) (changes : List Change) (from to : List Letter)
    → AllByRecursion (IsIndel kind) changes → text_after nth changes from ≡ Ok to
    → Resized kind changes from to
changes-resize Insertion nth [] from to all made =
    let same : from ≡ to = cc in let l : length from ≡ length to = ap length same in omega arith
changes-resize Insertion nth (Insert at letter ∷ changes) from to all made =
    let step = step-made (has_place (Insert at letter) (length from))
    (is_genome_length (length (insert from at letter))) _ (Place nth) (Length nth) to made in
    let placed : has_place (Insert at letter) (length from) ≡ true = step.0 in
    let le : at ≤ length from = grind arith in
    let longer : length (insert from at letter) ≡ length from + 1 =
    length-insert from at letter le in
    let more = changes-resize Insertion (nth + 1) changes (insert from at letter) to all.1 step.2 in
    omega (arith, longer, more)
changes-resize Insertion nth (_ ∷ changes) from to all made = absurd all.0
changes-resize Deletion nth [] from to all made =
    let same : from ≡ to = cc in let l : length from ≡ length to = ap length same in omega arith
changes-resize Deletion nth (Delete at ∷ changes) from to all made =
    let step = step-made (has_place (Delete at) (length from))
    (is_genome_length (length (remove from at))) _ (Place nth) (Length nth) to made in
    let placed : has_place (Delete at) (length from) ≡ true = step.0 in
    let lt : at < length from = grind arith in
    let shorter : length (remove from at) + 1 ≡ length from = length-remove from at lt in
    let more = changes-resize Deletion (nth + 1) changes (remove from at) to all.1 step.2 in
    omega (arith, shorter, more)
changes-resize Deletion nth (_ ∷ changes) from to all made = absurd all.0

-- the length that the definition names
pub length_after-is : (kind : Indel) (changes : List Change) (from to : List Letter)
    → Resized kind changes from to → length_after kind changes (length from) ≡ length to
length_after-is Insertion changes from to resized = sym resized
length_after-is Deletion changes from to resized = omega (arith, resized)

-- the place behind the letter that was tested
pub place-after : (kind : Indel) (changes : List Change) (front done rest : List Letter)
    (letter : Letter) → Resized kind changes (front ++ letter ∷ rest) (done ++ rest)
    → length_after kind changes (length front + 1) ≡ length done
place-after Insertion changes front done rest letter resized =
    omega (arith, resized, length-append front (letter ∷ rest), length-append done rest)
place-after Deletion changes front done rest letter resized =
    omega (arith, resized, length-append front (letter ∷ rest), length-append done rest)

-- what a test picks
pub picked : (P : Drawn → Type 0) (hit : Bool) (drawn none : Drawn) → (hit ≡ true → P drawn)
    → P none → P (cond hit drawn none)
picked P true drawn none here there = here refl
picked P false drawn none here there = there

-- the second of two tests that both pass
pub second-passes : (first second : Bool) → (first && second) ≡ true → second ≡ true
second-passes true second both = both
second-passes false second both = absurd cc

-- an insertion at a place of a text that is not too long
pub Makes-insert : (at : ℕ) (letter : Letter) (text : List Letter) → at ≤ length text
    → 8 ≤ length text → length text < 8192
    → Makes (Insert at letter ∷ []) text (insert text at letter)
Makes-insert at letter text placed shortest longest =
    let size : length (insert text at letter) ≡ length text + 1 =
    length-insert text at letter placed in
    let here : has_place (Insert at letter) (length text) ≡ true = grind arith in
    let fits : is_genome_length (length (with_change (Insert at letter) text)) ≡ true =
    rw size (grind arith) in
    Makes-one (Insert at letter) text here fits

-- a deletion at a place of a text that is not too short
pub Makes-remove : (at : ℕ) (text : List Letter) → at < length text → 8 < length text
    → length text ≤ 8192 → Makes (Delete at ∷ []) text (remove text at)
Makes-remove at text placed shortest longest =
    let size : length (remove text at) + 1 ≡ length text = length-remove text at placed in
    let here : has_place (Delete at) (length text) ≡ true = grind arith in
    let fits : is_genome_length (length (with_change (Delete at) text)) ≡ true =
    grind (arith, size) in
    Makes-one (Delete at) text here fits

-- a text has room for an indel at a place
pub record Room (kind : Indel) (range : LengthRange) (at : ℕ) (text : List Letter) : Type 0 where
  pub fits : Fits range (length text)
  pub room : has_room kind range (length text) ≡ true
  pub place : at < place_count kind (length text)

-- a text with an indel at a place
abbrev pub with_indel : Indel → ℕ → Letter → List Letter → List Letter
with_indel Insertion at letter text = insert text at letter
with_indel Deletion at letter text = remove text at

-- the indel makes it
pub Makes-indel : (kind : Indel) (range : LengthRange) (words : ℕ → ℕ) (spot : Spot)
    (text : List Letter) → Room kind range spot.place text
    → Makes (indel_at kind words spot).changes text
    (with_indel kind spot.place (letter_of_word (words spot.word)) text)
Makes-indel Insertion range words spot text room =
    let below : ltb (length text) range.greatest ≡ true = room.room in
    let lt : length text < range.greatest = grind arith in
    Makes-insert spot.place (letter_of_word (words spot.word)) text (omega arith) (omega arith)
    (omega arith)
Makes-indel Deletion range words spot text room =
    let above : ltb range.least (length text) ≡ true = room.room in
    let lt : range.least < length text = grind arith in
    Makes-remove spot.place text room.place (omega arith) (omega arith)

-- and its length is allowed
pub Fits-indel : (kind : Indel) (range : LengthRange) (at : ℕ) (letter : Letter)
    (text : List Letter) → Room kind range at text
    → Fits range (length (with_indel kind at letter text))
Fits-indel Insertion range at letter text room =
    let below : ltb (length text) range.greatest ≡ true = room.room in
    let lt : length text < range.greatest = grind arith in
    let le : at ≤ length text = omega (arith, room.place) in
    let size : length (insert text at letter) ≡ length text + 1 = length-insert text at letter le in
    record {
      shortest = room.fits.shortest;
      least = omega (arith, size, room.fits.least);
      greatest = omega (arith, size);
      longest = room.fits.longest;
    }
Fits-indel Deletion range at letter text room =
    let above : ltb range.least (length text) ≡ true = room.room in
    let lt : range.least < length text = grind arith in
    let size : length (remove text at) + 1 ≡ length text = length-remove text at room.place in
    record {
      shortest = room.fits.shortest;
      least = omega (arith, size);
      greatest = omega (arith, size, room.fits.greatest);
      longest = room.fits.longest;
    }

-- the front of a text after an indel at the letter behind it
abbrev pub front_after : Indel → Letter → List Letter → Letter → List Letter
front_after Insertion drawn front letter = front ++ drawn ∷ letter ∷ []
front_after Deletion drawn front letter = front

-- an insertion into the middle of a text
insert-middle : {A : Type 0} (front rest : List A) (x : A)
    → insert (front ++ rest) (length front) x ≡ front ++ x ∷ rest
insert-middle [] rest x = refl
insert-middle (y ∷ front) rest x = ap (λ l. y ∷ l) (insert-middle front rest x)

-- a deletion from the middle of a text leaves what stands on both sides
remove-middle : {A : Type 0} (front rest : List A) (x : A)
    → remove (front ++ x ∷ rest) (length front) ≡ front ++ rest
remove-middle [] rest x = refl
remove-middle (y ∷ front) rest x = ap (λ l. y ∷ l) (remove-middle front rest x)

-- an indel in the middle of a text
pub with_indel-middle : (kind : Indel) (drawn : Letter) (front : List Letter) (letter : Letter)
    (rest : List Letter) → with_indel kind (length front) drawn (front ++ letter ∷ rest)
    ≡ front_after kind drawn front letter ++ rest
with_indel-middle Insertion drawn front letter rest =
    insert-middle front (letter ∷ rest) drawn
    ∙ sym (append_assoc front (drawn ∷ letter ∷ []) rest)
with_indel-middle Deletion drawn front letter rest = remove-middle front rest letter

-- a place before the end is one for either kind
inside : (kind : Indel) (at len : ℕ) → at < len → at < place_count kind len
inside Insertion at len lt = omega arith
inside Deletion at len lt = lt

-- room at a letter in the middle of a text
pub Room-middle : (kind : Indel) (range : LengthRange) (front : List Letter) (letter : Letter)
    (rest : List Letter) → Fits range (length (front ++ letter ∷ rest))
    → has_room kind range (length (front ++ letter ∷ rest)) ≡ true
    → Room kind range (length front) (front ++ letter ∷ rest)
Room-middle kind range front letter rest fits room = record {
  fits = fits;
  room = room;
  place = inside kind (length front) (length (front ++ letter ∷ rest))
      (omega (arith, length-append front (letter ∷ rest)));
}

-- a letter that stays goes to the front
pub Makes-kept : (front : List Letter) (letter : Letter) (rest : List Letter)
    → Makes [] (front ++ letter ∷ rest) ((front ++ letter ∷ []) ++ rest)
Makes-kept front letter rest =
    rw (append_assoc front (letter ∷ []) rest) (Makes-none (front ++ letter ∷ rest))
