-- What was given of a log, beside what is left.
use Rattle.std.proofs.Common.{◌≡◌, ℕ, true, List, [], ◌∷◌, ◌++◌, Result, Ok, sym, ap, ◌∙◌}
use Rattle.lineage_log.proofs.Prelude.{Line, LogStop, LogReader, LogPlace, Before, told, told_all, log_of, with_line, IsAtStart, TellsNext, left_of, place_of}
use Rattle.lineage_log.proofs.LogLaws.{went_on, place_is}
use Rattle.lineage_log.proofs.ReadLemmas.{front_none, front_more, with_front}

-- the lines that were given are before those that are left, and lead to this place
pub record HasGiven (read : Result (List Line) LogStop) (place : LogPlace)
    (left : Result (List Line) LogStop) : Type 0 where
  pub front : List Line
  pub so_far : with_front front left ≡ read
  pub told : told_all Before front ≡ Ok place

-- at the start what is left is the whole log
pub left_at_start : (bytes : List ℕ) (reader : LogReader) → IsAtStart bytes reader
    → left_of reader ≡ log_of bytes
unfolding log_of
left_at_start bytes reader start = rw (start.number, start.place, start.rest)

-- at the start no line was given
pub given_none : (bytes : List ℕ) (reader : LogReader) → IsAtStart bytes reader
    → HasGiven (log_of bytes) (place_of reader.place) (left_of reader)
given_none bytes reader start = record {
  front = [];
  so_far = front_none (left_of reader) ∙ left_at_start bytes reader start;
  told = ap (λ (p : LogPlace). Ok p) (sym start.place);
}

-- where lines lead to a place and one more from there to another, all lead to that other
told_more : (place before after : LogPlace) (front : List Line) (line : Line)
    → told_all place front ≡ Ok before → told before line ≡ Ok after
    → told_all place (front ++ line ∷ []) ≡ Ok after
told_more place before after [] line so next =
    rw (place_is place before so, next)
told_more place before after (first ∷ front) line so next =
    let step = went_on (told place first) (λ p. told_all p front) before so in
    rw step.1 (told_more step.0 before after front line step.2 next)

-- where what is left begins with a line that is told, it is given, and the others are left
pub given_more : (read : Result (List Line) LogStop) (before after : LogPlace)
    (left behind : Result (List Line) LogStop) (line : Line) → HasGiven read before left
    → left ≡ with_line line behind → told before line ≡ Ok after → HasGiven read after behind
given_more read before after left behind line given is next = record {
  front = given.front ++ line ∷ [];
  so_far = sym (front_more given.front line behind) ∙ ap (with_front given.front) (sym is)
      ∙ given.so_far;
  told = told_more Before before after given.front line given.told next;
}

-- one line more was given, where it was told
pub given_told : (read : Result (List Line) LogStop) (before after : LogReader)
    → HasGiven read (place_of before.place) (left_of before) → TellsNext (Ok true) before after
    → HasGiven read (place_of after.place) (left_of after)
given_told read before after given tells =
    given_more read (place_of before.place) (place_of after.place) (left_of before) (left_of after)
    tells.0 given tells.1.left tells.1.told
