-- The loop over the pieces of a log.
use Rattle.std.proofs.Common.{◌≡◌, ℕ, ◌+◌, List, [], ◌∷◌, ◌++◌, Some, None, Result, Ok, Err, length-append, arith, refl, sym, ap, ◌∙◌, append_assoc, zero-add}
use Rattle.std.specs.Prelude.{◌≢◌, ◌↔◌, OnOk}
use Rattle.lineage_log.proofs.Prelude.{row_text, split_first, Line, line_of, Reason, Refusal, LogStop, LogPlace, told, LogReader, left_of, place_of, Tells, stop_of, stop_at, with_line, pieces_log, log_kind, log_of, lines_text, Reads, IsGoodLog}
use Rattle.log_lines.specs.LineReading.{StartsWith}
use Rattle.lineage_log.specs.declared.refusal.Refusal.TheVariants.{Memory, Faulty}
use Rattle.lineage_log.specs.declared.log_stop.LogStop.TheVariants as wanting
use Rattle.lineage_log.proofs.LineWalkLaws.{cut, more_pieces}
use Rattle.lineage_log.proofs.LogLaws.{line_counted}
use Rattle.lineage_log.specs.LogReading.{GoesOn, ReadsLine}
use Rattle.lineage_log.specs.declared.place.LogPlace as code
use Rattle.log_lines.proofs.LineLaws.{lines_spell}

-- lines before those that are read
abbrev pub with_front : List Line → Result (List Line) LogStop → Result (List Line) LogStop
with_front front (Ok lines) = Ok (front ++ lines)
with_front front (Err e) = Err e

-- no lines in front of what is read leave it as it is
pub front_none : (r : Result (List Line) LogStop) → with_front [] r ≡ r
front_none (Ok lines) = refl
front_none (Err fault) = refl

-- a line in front of what is read is the last of the lines in front
pub front_more : (front : List Line) (one : Line) (r : Result (List Line) LogStop)
    → with_front front (with_line one r) ≡ with_front (front ++ one ∷ []) r
front_more front one (Ok lines) =
    ap (λ (l : List Line). Ok l) (sym (append_assoc front (one ∷ []) lines))
front_more front one (Err fault) = refl

module _ (number : ℕ) (place : LogPlace) (piece rest : List ℕ) where
  -- a piece that is no line is the fault
  pub bad_line : line_of piece ≡ None
      → pieces_log number place (piece ∷ cut rest) ≡ Err (wanting.BadLine number)
  bad_line none = rw (more_pieces log_kind line_of place piece rest, none, zero-add number) refl

  -- a line that is out of order is the fault, for the same reason
  pub bad_order : (one : Line) (reason : Reason) → line_of piece ≡ Some one
      → told place one ≡ Err reason
      → pieces_log number place (piece ∷ cut rest)
      ≡ Err (stop_at number reason)
  bad_order one reason is bad =
      rw (more_pieces log_kind line_of place piece rest, is, bad, zero-add number) refl

  -- a line that is told is read, and the others from the place that it leads to
  pub good_line : (one : Line) (next : LogPlace) (after : ℕ) → line_of piece ≡ Some one
      → told place one ≡ Ok next → after ≡ number + 1
      → pieces_log number place (piece ∷ cut rest)
      ≡ with_line one (pieces_log after next (cut rest))
  good_line one next after is good more =
      rw (more_pieces log_kind line_of place piece rest, is, good)
      (line_counted number after one _ _ more)

-- what is read of bytes is a good log that has them as its text
abbrev pub ReadsExactly : Type 0
ReadsExactly = (bytes : List ℕ) (lines : List Line) → Reads bytes lines
    ↔ ((lines_text lines ≡ bytes) × IsGoodLog lines)

-- what is read is a good log, if exactly the texts of good logs are read
pub good_read : ReadsExactly → (bytes : List ℕ) (lines : List Line) → log_of bytes ≡ Ok lines
    → IsGoodLog lines
good_read law bytes lines is = ((law bytes lines).0 is).1

-- the answer for a line that was not taken
pub refused : (refusal : Refusal) (number : ℕ) (stop : LogStop) (next : LogPlace)
    (t : Result LogPlace Reason) (read : Result (List Line) LogStop) → stop ≡ stop_of number refusal
    → (stop ≢ wanting.Memory) → Tells {A = Unit {0}} (λ done. next) (Err refusal) t
    → ((reason : Reason) → t ≡ Err reason
    → read ≡ Err (stop_at number reason)) → read ≡ Err stop
refused Memory number stop next t read is other told faulty = absurd (other is)
refused (Faulty reason) number stop next t read is other told faulty =
    faulty reason told ∙ ap (λ (s : LogStop). Err s) (sym is)

module _ (reader : LogReader) (line : Line) (left : List ℕ)
    (front : StartsWith reader.rest.now line left) where
  -- the bytes that are left begin with the text of a line
  row_front : reader.rest.now ≡ row_text line ++ 10 ∷ left
  row_front = front.text ∙ append_assoc (row_text line) (10 ∷ []) left

  -- which is the first piece of what is left of the log
  line_first : left_of reader
      ≡ pieces_log reader.number (place_of reader.place) (row_text line ∷ cut left)
  line_first =
      ap (λ (bytes : List ℕ). pieces_log reader.number (place_of reader.place) (cut bytes)) row_front
      ∙ ap (λ (ps : List (List ℕ)). pieces_log reader.number (place_of reader.place) ps)
      (split_first 10 (row_text line) left (lines_spell.one_line line front.form))

  -- and is read as the line
  is_line : line_of (row_text line) ≡ Some line
  is_line = lines_spell.again line front.form

  -- where it is out of order, that is the fault
  pub line_refused : (refusal : Refusal) (stop : LogStop) (next : LogPlace)
      → stop ≡ stop_of reader.number refusal → (stop ≢ wanting.Memory)
      → Tells {A = Unit {0}} (λ done. next) (Err refusal) (told (place_of reader.place) line)
      → left_of reader ≡ Err stop
  line_refused refusal stop next is other bad =
      refused refusal reader.number stop next (told (place_of reader.place) line) (left_of reader)
      is other bad
      (λ reason faulty. line_first ∙ bad_order reader.number (place_of reader.place)
      (row_text line) left line reason is_line faulty)

  -- where it is told, a reader that goes on behind it has read it
  pub line_read : (passed : Result (Unit {0}) LogStop) (next after : LogReader)
      → OnOk passed (GoesOn next after left) → next.number ≡ reader.number
      → told (place_of reader.place) line ≡ Ok (place_of next.place)
      → OnOk passed (ReadsLine line reader after)
  line_read (Err stop) next after goes same good = tt
  line_read (Ok done) next after goes same good =
      let n = reader.number in
      let behind : left_of after ≡ pieces_log (n + 1) (place_of next.place) (cut left) =
      rw (goes.number, same, goes.place, goes.rest) refl in
      record {
        left = line_first ∙ good_line n (place_of reader.place) (row_text line) left line
            (place_of next.place) (n + 1) is_line good refl ∙ ap (with_line line) (sym behind);
        told = good ∙ ap (λ (p : code.LogPlace). Ok (place_of p)) (sym goes.place);
        shorter = rw (goes.rest, row_front)
            (omega (arith, length-append (row_text line) (10 ∷ left)));
      }
