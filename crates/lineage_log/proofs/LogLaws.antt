-- The bytes of a log are read as what `log_of` gives, and as nothing else.
use Rattle.std.proofs.Common.{◌≡◌, ℕ, ◌+◌, List, [], ◌∷◌, length, Some, Result, Ok, Err, refl, subst, arith, append-nil}
use Rattle.lineage_log.proofs.Prelude.{Line, line_of, OneSpelling, LogStop, Reason, Reader, LogPlace, Before, After, told_all, IsWhole, log_of, with_line, lines_text, IsGoodLog, Fault, HasGoodLines, last_reader, log_answer, log_kind, ReadsLog}
use Rattle.lineage_log.proofs.LineWalkLaws.{IsSpelled, reads_once, walk_reads}
pub use Rattle.lineage_log.proofs.LineWalkLaws.{went_on}

-- two equal answers have one place
pub place_is : (p q : LogPlace) → ◌≡◌ {A = Result LogPlace Reason} (Ok p) (Ok q) → p ≡ q
place_is p q e = cc

-- where the last line has come, there is a reader after it
pub whole_is : (t : Result LogPlace Reason) → IsWhole t → (r : Reader) × (t ≡ Ok (After r))
whole_is (Ok (After r)) w = (r, refl)
whole_is _ w = absurd w

-- and back
is_whole : (place : LogPlace) (r : Reader) → last_reader place ≡ Some r → IsWhole (Ok place)
is_whole (After r) other is = tt
is_whole _ other is = absurd cc

-- a line before others has the number before theirs
pub line_counted : (number after : ℕ) (line : Line) (lines : List Line)
    (end : Result Reader (Fault Reason)) → after ≡ number + 1
    → log_answer number (line ∷ lines) end ≡ with_line line (log_answer after lines end)
line_counted number after line lines (Ok r) more = refl
line_counted number after line lines (Err fault) more =
    let count : length (line ∷ lines) + number ≡ length lines + after = omega (arith, more) in
    rw count refl

module _ (spell : OneSpelling) where
  -- a line of a log has one spelling
  log_spelled : IsSpelled log_kind line_of
  log_spelled =
      record { again = spell.again; takes = spell.takes; one_line = spell.one_line }

  -- the text of a good log is read as this log
  pub read_back : (bytes : List ℕ) (lines : List Line) → lines_text lines ≡ bytes
      → IsGoodLog lines → log_of bytes ≡ Ok lines
  unfolding log_of
  read_back bytes lines text good =
      let r = whole_is (told_all Before lines) good.order in
      rw (reads_once log_kind line_of log_spelled Before bytes lines (Ok r.0) (record {
        place = After r.0;
        left = [];
        text = rw append-nil text;
        forms = good.forms;
        order = r.1;
        ends = (refl, refl);
      })) refl

  -- what the bytes are read as is what log_of gives
  pub reads_one_log : (bytes : List ℕ) (answer : Result (List Line) LogStop)
      → ReadsLog bytes answer → log_of bytes ≡ answer
  unfolding log_of
  reads_one_log bytes (Ok lines) (text, good) = read_back bytes lines text good
  reads_one_log bytes (Err why) (lines, fault, reads, is) =
      rw (reads_once log_kind line_of log_spelled Before bytes lines (Err fault) reads, is) refl

  -- lines that are read are a reading of a log
  as_log : (bytes : List ℕ) (lines : List Line) (end : Result Reader (Fault Reason))
      → HasGoodLines log_kind Before bytes lines end → ReadsLog bytes (log_answer 1 lines end)
  as_log bytes lines (Ok r) reads = (
    rw (reads.ends.0, append-nil) at reads.text,
    record { forms = reads.forms; order = rw reads.order (is_whole reads.place r reads.ends.1) },
  )
  as_log bytes lines (Err fault) reads = (lines, fault, reads, refl)

  -- what log_of gives is what the bytes are read as
  pub log_is_read : (bytes : List ℕ) → ReadsLog bytes (log_of bytes)
  unfolding log_of
  log_is_read bytes = as_log bytes _ _ (walk_reads log_kind line_of log_spelled Before bytes)

  -- bytes that are read as lines are their text, and the lines are a good log
  pub log_takes : (bytes : List ℕ) (lines : List Line) → log_of bytes ≡ Ok lines
      → (lines_text lines ≡ bytes) × IsGoodLog lines
  log_takes bytes lines is =
      subst (λ (a : Result (List Line) LogStop). ReadsLog bytes a) is (log_is_read bytes)
