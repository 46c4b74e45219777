-- What is read off the front of a text, and what follows it.
use Rattle.std.proofs.Common.{◌≡◌, ◌<◌, ◌≤◌, ◌-◌, ◌^◌, ◌∙◌, ℕ, List, [], ◌∷◌, ◌++◌, Some, length, get_or, take, drop, refl, sym, ap, arith, append_assoc, decimal}
use Rattle.std.specs.Prelude.{◌==◌}
use Rattle.log_lines.proofs.Prelude.{Line, line_of, row_text, slice_split, join_with_byte, join_with_byte-slice_split, Change, change_text, digits_len, leading_digits, number_of}
use Rattle.log_lines.specs.LineReading.{StartsWith}
use Rattle.log_lines.specs.Line.{changes_word}
use Rattle.log_lines.proofs.FrontLemmas.{digits_split, tail_is}
use Rattle.log_lines.proofs.LineLaws.{lines_spell}
use Rattle.log_lines.proofs.WordLemmas.{split_some}
use Rattle.numerals.proofs.SpellingLemmas.{numbers_spell}

-- a byte
pub byte_front : (text : List ℕ) (b : ℕ) → 1 ≤ length text → get_or text 0 0 ≡ b
    → text ≡ b ∷ take (length text - 1) (drop 1 text)
byte_front [] b some is = absurd (omega (arith, some))
byte_front (c ∷ bs) b some is =
    rw (tail_is 1 (c ∷ bs) (omega arith)) (ap (λ (x : ℕ). x ∷ bs) is)

-- a number
pub number_front : (text : List ℕ) (value len most : ℕ) → most < 2 ^ 64
    → Some value ≡ number_of 0 most (leading_digits text) → len ≡ digits_len text
    → len ≤ length text → text ≡ decimal value ++ take (length text - len) (drop len text)
number_front text value len most wide number far within =
    let spelled = numbers_spell.takes 0 most value (leading_digits text) wide (sym number) in
    sym (digits_split text)
    ∙ ap (λ (l : List ℕ). l ++ drop (digits_len text) text) (sym spelled.0)
    ∙ ap (λ (k : ℕ). decimal value ++ drop k text) (sym far)
    ∙ ap (λ (l : List ℕ). decimal value ++ l) (sym (tail_is len text within))

module _ (part : ℕ) where
  -- pieces behind a piece, joined to it
  joined_behind : (piece : List ℕ) (pieces : List (List ℕ)) → 0 < length pieces
      → join_with_byte part (piece ∷ pieces) ≡ piece ++ part ∷ join_with_byte part pieces
  joined_behind piece [] some = absurd (omega (arith, some))
  joined_behind piece (next ∷ pieces) some = refl

  -- a piece before the part byte
  pub piece_front : (text piece behind : List ℕ) → slice_split (λ b. b == part) text
      ≡ piece ∷ slice_split (λ b. b == part) behind → text ≡ piece ++ part ∷ behind
  piece_front text piece behind is =
      sym (join_with_byte-slice_split part text)
      ∙ ap (λ (ps : List (List ℕ)). join_with_byte part ps) is
      ∙ joined_behind piece (slice_split (λ b. b == part) behind) (split_some part behind)
      ∙ ap (λ (l : List ℕ). piece ++ part ∷ l) (join_with_byte-slice_split part behind)

  -- a text that is one piece is that piece
  pub only_piece : (text piece : List ℕ) → slice_split (λ b. b == part) text ≡ piece ∷ []
      → piece ≡ text
  only_piece text piece is =
      ap (λ (ps : List (List ℕ)). join_with_byte part ps) (sym is)
      ∙ join_with_byte-slice_split part text

-- a line before a newline
pub line_front : (text piece behind : List ℕ) (line : Line) → slice_split (λ b. b == 10) text
    ≡ piece ∷ slice_split (λ b. b == 10) behind → line_of piece ≡ Some line
    → StartsWith text line behind
line_front text piece behind line is read =
    let spelled = lines_spell.takes piece line read in
    record {
      text = piece_front 10 text piece behind is
          ∙ ap (λ (p : List ℕ). p ++ 10 ∷ behind) (sym spelled.0)
          ∙ sym (append_assoc (row_text line) (10 ∷ []) behind);
      form = spelled.1;
    }

-- changes, each before a comma
abbrev pub listed : List Change → List ℕ
listed [] = []
listed (c ∷ cs) = change_text c ++ 44 ∷ listed cs

-- one change more
pub listed_more : (cs : List Change) (c : Change)
    → listed (cs ++ c ∷ []) ≡ listed cs ++ (change_text c ++ 44 ∷ [])
listed_more [] c = refl
listed_more (a ∷ cs) c = ap (λ (l : List ℕ). change_text a ++ 44 ∷ l) (listed_more cs c)
    ∙ sym (append_assoc (change_text a) (44 ∷ listed cs) (change_text c ++ 44 ∷ []))

-- the last change, which no comma follows
pub listed_last : (cs : List Change) (c : Change)
    → changes_word (cs ++ c ∷ []) ≡ listed cs ++ change_text c
listed_last [] c = refl
listed_last (a ∷ []) c = sym (append_assoc (change_text a) (44 ∷ []) (change_text c))
listed_last (a ∷ b ∷ cs) c =
    ap (λ (l : List ℕ). change_text a ++ 44 ∷ l) (listed_last (b ∷ cs) c)
    ∙ sym (append_assoc (change_text a) (44 ∷ listed (b ∷ cs)) (change_text c))

module _ (text left behind : List ℕ) (cs more : List Change) (c : Change)
    (found : text ≡ listed cs ++ left) (grown : more ≡ cs ++ c ∷ []) where
  -- a change before a comma is one more
  pub comma_read : left ≡ change_text c ++ 44 ∷ behind → text ≡ listed more ++ behind
  comma_read is = found ∙ ap (λ (l : List ℕ). listed cs ++ l) is
      ∙ sym (ap (λ (l : List Change). listed l ++ behind) grown
      ∙ ap (λ (l : List ℕ). l ++ behind) (listed_more cs c)
      ∙ append_assoc (listed cs) (change_text c ++ 44 ∷ []) behind
      ∙ ap (λ (l : List ℕ). listed cs ++ l) (append_assoc (change_text c) (44 ∷ []) behind))

  -- a change before a newline is the last one
  pub end_read : left ≡ change_text c ++ 10 ∷ behind → text ≡ changes_word more ++ 10 ∷ behind
  end_read is = found ∙ ap (λ (l : List ℕ). listed cs ++ l) is
      ∙ sym (ap (λ (l : List Change). changes_word l ++ 10 ∷ behind) grown
      ∙ ap (λ (l : List ℕ). l ++ 10 ∷ behind) (listed_last cs c)
      ∙ append_assoc (listed cs) (change_text c) (10 ∷ behind))
