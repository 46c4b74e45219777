use Rattle.std.proofs.Common.{◌≡◌, ◌∙◌, ◌+◌, ◌<◌, ◌∷◌, ◌++◌, [], List, Some, true, drop, get_or, length, length-append, inl, inr, sym, ap, arith}
use Rattle.saved_lines.proofs.Prelude.{list_all, Letter, letter_of_byte, is_nop}
use Rattle.saved_lines.proofs.NopLemmas.{all_more, nop_on, nops_behind, too_few_or_many}
use Rattle.saved_lines.proofs.fields.nops_of.Goals.{then-count-eq0-via-then-count-eq0, then-count-eq0-via-else-count-eq0+then-count-gt-LONGEST_TEMPLATE}
use Rattle.label_search.proofs.TemplateLemmas.{nops_read-room}
use Rattle.saved_lines.proofs.fields.nops_of.Goals as goal

pub returns-then-count-eq0 : goal.returns-then-count-eq0
returns-then-count-eq0 c = sym (too_few_or_many c.args.word.now (elim c.then-count-eq0.branch [
  | then-count-eq0-via-then-count-eq0 w ↦ inl (omega arith)
  | then-count-eq0-via-else-count-eq0+then-count-gt-LONGEST_TEMPLATE w ↦ inr (omega arith)
]))

pub loop-byte-preserved : goal.loop-byte-preserved
loop-byte-preserved c =
    let word = c.args.word.now in
    let i = c.loop-byte.byte-index in
    let nops = c.loop-byte.nops in
    let letter = c.in_ok-letter.letter in
    let low : i < length word = c.loop-byte-test.true in
    let found : letter_of_byte (get_or word i 0) ≡ Some letter =
    sym c.in_ok-letter.ensures.letter in
    let nop : is_nop letter ≡ true = sym c.is_nop.ensures ∙ c.if-not-is_nop.false in
    let few : length nops < 10 =
    omega (arith, c.loop-byte.invariant.count, low, c.if-count-gt-LONGEST_TEMPLATE.false) in
    let more : c.note.new.self ≡ nops ++ letter ∷ [] =
    c.note.ensures.read ∙ nops_read-room nops letter nop few in
    record {
      read = ap (λ (l : List Letter). nops_behind l (drop (i + 1) word)) more
          ∙ sym (nop_on word nops i low letter found) ∙ c.loop-byte.invariant.read;
      nops = ap (λ (l : List Letter). list_all is_nop l) more
          ∙ all_more nops letter c.loop-byte.invariant.nops nop;
      count = ap (λ (l : List Letter). length l) more
          ∙ omega (arith, length-append nops (letter ∷ []), c.loop-byte.invariant.count);
    }
