use Rattle.std.proofs.Common.{◌≡◌, ◌+◌, ◌-◌, ◌<◌, ◌∷◌, ◌++◌, List, [], ℕ, length, take, drop, decimal, set, arith, rules, append-nil, ap, ◌∙◌}
use Rattle.log_lines.proofs.Prelude.{drop-set, take_all}
use Rattle.std.proofs.lemmas.Fmt.{length-decimal-le}
use Rattle.log_lines.proofs.writing.write_number.Goals as goal

pub write_digits-start-requires : goal.write_digits-start-requires
write_digits-start-requires c = (
  omega (
    arith,
    length-decimal-le 20 c.args.value (omega arith)
        (omega arith) c.ranges.value.fits,
  ),
  search rules,
)

pub overflow_sub-start : goal.overflow_sub-start
overflow_sub-start c =
    omega (arith, length-decimal-le 20 c.args.value (omega arith) (omega arith) c.ranges.value.fits)

-- the last bytes of the room, from the one before the digits on
written : (buf : List ℕ) (start before : ℕ) (digits : List ℕ) → 0 < start
    → start + length digits ≡ 21 → length buf ≡ 21 → drop start buf ≡ digits ++ []
    → take (21 - (start - 1)) (drop (start - 1) (set buf (start - 1) before)) ≡ before ∷ digits
written buf start before digits some at long is =
    let e : start - 1 + 1 ≡ start = omega arith in
    let low : start - 1 < length buf = omega arith in
    let there : drop (start - 1) (set buf (start - 1) before) ≡ before ∷ digits =
    drop-set buf (start - 1) before low ∙ ap (λ (k : ℕ). before ∷ drop k buf) e
    ∙ ap (λ (l : List ℕ). before ∷ l) (is ∙ append-nil digits) in
    ap (λ (l : List ℕ). take (21 - (start - 1)) l) there
    ∙ take_all (21 - (start - 1)) (before ∷ digits) (omega arith)

pub returns-clause-ok : goal.returns-clause-ok
returns-clause-ok c =
    let w = c.write_digits-start in
    let some : 0 < w.result =
    omega (
      arith,
      length-decimal-le 20 c.args.value (omega arith)
          (omega arith) c.ranges.value.fits,
    ) in
    rw (written w.new.buf w.result c.args.before (decimal c.args.value) some w.ensures.start
    w.auto.buf w.ensures.written) at c.text.ensures.ok
