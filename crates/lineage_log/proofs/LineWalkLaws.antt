-- Bytes are read as what the walk over their lines gives, and as nothing else.
use Rattle.std.proofs.Common.{◌≡◌, ℕ, ◌<◌, List, [], ◌∷◌, ◌++◌, Option, Some, None, Result, Ok, Err, refl, arith, append_assoc, ◌⊎◌, inl, inr}
use Rattle.std.specs.Prelude.{◌==◌}
use Rattle.lineage_log.proofs.Prelude.{AllByRecursion, cases_Bool, nat_tests, slice_split, split_first, BeginsWith, EndsWith, Fault, LineKind, NoLine, OutOfOrder, Unended, HasGoodLines, and_on, told_each, text_of_lines, LinesRead, after_told, ended, last_end, one_piece, pieces_read}

-- the pieces between newlines
abbrev pub cut : List ℕ → List (List ℕ)
cut bytes = slice_split (λ b. b == 10) bytes

-- the bytes have a newline, with the first piece before it
record HasPiece (bytes : List ℕ) : Type 0 where
  piece : List ℕ
  rest : List ℕ
  text : piece ++ 10 ∷ rest ≡ bytes
  pieces : cut bytes ≡ piece ∷ cut rest

-- any bytes are one of both
cut_cases : (bytes : List ℕ) → (cut bytes ≡ bytes ∷ []) ⊎ HasPiece bytes
cut_cases [] = inl refl
cut_cases (b ∷ bs) = elim (cases_Bool (b == 10)) [
  | inl is ↦
      let same : 10 ≡ b = grind (arith, nat_tests, is) in
      inr (record { piece = []; rest = bs; text = rw same; pieces = rw is refl })
  | inr not ↦ elim (cut_cases bs) [
    | inl one ↦ inl (rw (not, one) refl)
    | inr more ↦ inr (record {
      piece = b ∷ more.piece;
      rest = more.rest;
      text = rw more.text;
      pieces = rw (not, more.pieces) refl;
    })
  ]
]

-- any bytes have at least one piece
cut_some : (bytes : List ℕ) → (next : List ℕ) × (others : List (List ℕ))
    × (cut bytes ≡ next ∷ others)
cut_some bytes = elim (cut_cases bytes) [
  | inl one ↦ (bytes, [], one)
  | inr more ↦ (more.piece, cut more.rest, more.pieces)
]

-- where a line and what follows it are told, the line leads to a place from which that is told
pub went_on : {Place Cause : Type 0} (r : Result Place Cause) (next : Place → Result Place Cause)
    (q : Place) → and_on r next ≡ Ok q → (p : Place) × (r ≡ Ok p) × (next p ≡ Ok q)
went_on (Ok p) next q e = (p, refl, e)
went_on (Err cause) next q e = absurd cc

-- a line of this kind is read from its text, and from no other, which has no newline
pub record IsSpelled {Line Place Cause Whole : Type 0} (kind : LineKind Line Place Cause Whole)
    (line_of : List ℕ → Option Line) : Type 0
  where
    pub again : (line : Line) → kind.HasForm line → line_of (kind.text line) ≡ Some line
    pub takes : (bytes : List ℕ) (line : Line) → line_of bytes ≡ Some line
        → (kind.text line ≡ bytes) × kind.HasForm line
    pub one_line : (line : Line) → kind.HasForm line
        → AllByRecursion (λ b. 10 < b) (kind.text line)

module _ {Line Place Cause Whole : Type 0} (kind : LineKind Line Place Cause Whole)
    (line_of : List ℕ → Option Line) where
  -- a piece before those of further bytes
  pub more_pieces : (place : Place) (piece rest : List ℕ)
      → pieces_read kind line_of place (piece ∷ cut rest)
      ≡ one_piece kind place (line_of piece) (λ p. pieces_read kind line_of p (cut rest))
  more_pieces place piece rest = rw (cut_some rest).2 refl

  -- the text of lines behind a line
  line_apart : (line : Line) (lines : List Line) (left : List ℕ)
      → text_of_lines kind (line ∷ lines) ++ left
      ≡ kind.text line ++ 10 ∷ (text_of_lines kind lines ++ left)
  line_apart line lines left = simp append_assoc

  module _ (spell : IsSpelled kind line_of) where
    -- the first piece of bytes that begin with a line is its text
    begins_cut : (bytes : List ℕ) (line : Line) (begins : BeginsWith kind bytes line)
        → cut bytes ≡ kind.text line ∷ cut begins.rest
    begins_cut bytes line begins =
        rw (← begins.text)
        (split_first 10 (kind.text line) begins.rest (spell.one_line line begins.form))

    -- the walk over bytes that begin with a line
    first_told : (place : Place) (bytes : List ℕ) (line : Line)
        (begins : BeginsWith kind bytes line) → pieces_read kind line_of place (cut bytes)
        ≡ after_told line (kind.told place line) (λ p. pieces_read kind line_of p (cut begins.rest))
    first_told place bytes line begins =
        rw (
          begins_cut bytes line begins,
          more_pieces place (kind.text line) begins.rest,
          spell.again line begins.form,
        ) refl

    -- the bytes begin with a line, or the walk ends at once
    abbrev FirstCase : List ℕ → Type 0
    FirstCase bytes = ((line : Line) × BeginsWith kind bytes line)
        ⊎ (((line : Line) → ¬ BeginsWith kind bytes line) × ((place : Place)
        → pieces_read kind line_of place (cut bytes) ≡ ended (last_end kind place bytes)))

    -- the case of bytes without a newline
    one_piece_case : (bytes : List ℕ) → cut bytes ≡ bytes ∷ [] → FirstCase bytes
    one_piece_case bytes one = inr (
      λ line begins.
          let some = cut_some begins.rest in cc (begins_cut bytes line begins),
      λ place. rw one refl,
    )

    -- the case of bytes with a newline
    piece_case : (b : ℕ) (bs : List ℕ) (more : HasPiece (b ∷ bs)) (o : Option Line)
        → line_of more.piece ≡ o → FirstCase (b ∷ bs)
    piece_case b bs more None none = inr (
      λ line begins.
          cc (begins_cut (b ∷ bs) line begins, spell.again line begins.form, more.pieces),
      λ place. rw (more.pieces, more_pieces place more.piece more.rest, none) refl,
    )
    piece_case b bs more (Some line) is =
        let taken = spell.takes more.piece line is in
        inl (line, record { rest = more.rest; text = rw taken.0 more.text; form = taken.1 })

    -- the case of any bytes
    first_case : (bytes : List ℕ) → FirstCase bytes
    first_case [] = one_piece_case [] refl
    first_case (b ∷ bs) = elim (cut_cases (b ∷ bs)) [
      | inl one ↦ one_piece_case (b ∷ bs) one
      | inr more ↦ piece_case b bs more (line_of more.piece) refl
    ]

    -- ---- what the bytes are read as is what the walk gives

    -- the walk ends as the bytes do
    end_read : (place : Place) (left : List ℕ) (end : Result Whole (Fault Cause))
        → EndsWith kind place left end → pieces_read kind line_of place (cut left) ≡ ended end
    end_read place left (Ok whole) (none, is) = rw (none, is) refl
    end_read place left (Err Unended) (none, is) = rw (none, is) refl
    end_read place [] (Err NoLine) (some, none) = absurd (some refl)
    end_read place (b ∷ bs) (Err NoLine) (some, none) = elim (first_case (b ∷ bs)) [
      | inl first ↦ absurd (none first.0 first.1)
      | inr at_once ↦ at_once.1 place
    ]
    end_read place left (Err (OutOfOrder cause)) (first, begins, bad) =
        rw (first_told place left first begins, bad) refl

    -- the walk goes over good lines, and then ends so
    lines_read : (start to : Place) (lines : List Line) (left : List ℕ)
        (end : Result Whole (Fault Cause)) → AllByRecursion kind.HasForm lines
        → told_each kind.told start lines ≡ Ok to → EndsWith kind to left end
        → pieces_read kind line_of start (cut (text_of_lines kind lines ++ left))
        ≡ record { lines = lines; end = end }
    lines_read start to [] left end forms order ends =
        let same : start ≡ to = cc in rw same (end_read to left end ends)
    lines_read start to (line ∷ lines) left end forms order ends =
        let rest = text_of_lines kind lines ++ left in
        let step = went_on (kind.told start line) (λ p. told_each kind.told p lines) to order in
        rw (
          line_apart line lines left,
          first_told start (kind.text line ++ 10 ∷ rest) line
              (record { rest = rest; text = refl; form = forms.0 }),
          step.1,
          lines_read step.0 to lines left end forms.1 step.2 ends,
        ) refl

    -- what bytes are read as is what the walk gives
    pub reads_once : (start : Place) (bytes : List ℕ) (lines : List Line)
        (end : Result Whole (Fault Cause)) → HasGoodLines kind start bytes lines end
        → pieces_read kind line_of start (cut bytes) ≡ record { lines = lines; end = end }
    reads_once start bytes lines end reads =
        rw (← reads.text)
        (lines_read start reads.place lines reads.left end reads.forms reads.order reads.ends)

    -- ---- what the walk gives is what the bytes are read as

    -- the bytes are read so
    abbrev pub ReadsSo : Place → List ℕ → LinesRead Line Whole Cause → Type 0
    ReadsSo start bytes read = HasGoodLines kind start bytes read.lines read.end

    -- no line is read
    ends_here : (place : Place) (bytes : List ℕ) (end : Result Whole (Fault Cause))
        → EndsWith kind place bytes end → ReadsSo place bytes (ended end)
    ends_here place bytes end ends = record {
      place = place;
      left = bytes;
      text = refl;
      forms = tt;
      order = refl;
      ends = ends;
    }

    -- bytes that begin with no line end so
    last_is : (place : Place) (bytes : List ℕ) (o : Option Whole) → kind.whole_at place ≡ o
        → ((line : Line) → ¬ BeginsWith kind bytes line)
        → EndsWith kind place bytes (last_end kind place bytes)
    last_is place [] (Some whole) is none = rw is (refl, is)
    last_is place [] None is none = rw is (refl, is)
    last_is place (b ∷ bs) o is none = (λ empty. cc, none)

    -- a first line that is told, and the others, which are read so from any place
    line_is : (place : Place) (bytes : List ℕ) (line : Line) (begins : BeginsWith kind bytes line)
        (told : Result Place Cause) → kind.told place line ≡ told
        → (others : Place → LinesRead Line Whole Cause)
        → ((p : Place) → ReadsSo p begins.rest (others p))
        → ReadsSo place bytes (after_told line told others)
    line_is place bytes line begins (Err cause) told others on =
        ends_here place bytes (Err (OutOfOrder cause)) (line, begins, told)
    line_is place bytes line begins (Ok next) told others on =
        let behind = on next in
        record {
          place = behind.place;
          left = behind.left;
          text = rw (line_apart line (others next).lines behind.left, behind.text) begins.text;
          forms = (begins.form, behind.forms);
          order = rw told behind.order;
          ends = behind.ends;
        }

    -- the walk over these pieces
    walk_is : (pieces : List (List ℕ)) (place : Place) (bytes : List ℕ) → cut bytes ≡ pieces
        → ReadsSo place bytes (pieces_read kind line_of place (cut bytes))
    walk_is [] place bytes is =
        let some = cut_some bytes in absurd cc
    walk_is (piece ∷ pieces) place bytes is = elim (first_case bytes) [
      | inl first ↦
          let begins = first.1 in
          let rest : cut begins.rest ≡ pieces = cc (begins_cut bytes first.0 begins) in
          rw (first_told place bytes first.0 begins) (line_is place bytes first.0 begins
          (kind.told place first.0) refl (λ p. pieces_read kind line_of p (cut begins.rest))
          (λ p. walk_is pieces p begins.rest rest))
      | inr at_once ↦ rw (at_once.1 place) (ends_here place bytes (last_end kind place bytes)
          (last_is place bytes (kind.whole_at place) refl at_once.0))
    ]

    -- bytes are read as what the walk gives
    pub walk_reads : (start : Place) (bytes : List ℕ)
        → ReadsSo start bytes (pieces_read kind line_of start (cut bytes))
    walk_reads start bytes = walk_is (cut bytes) start bytes refl
