use Rattle.std.proofs.Common.{[], get_or, ◌≡◌, ◌<◌, ◌∷◌, ℕ, List, Some, None, length, ap, ◌∙◌, sym, append_assoc, arith, cond, take}
use Rattle.std.specs.Prelude.{option_copied, slice_get, ◌==◌}
use Rattle.log_lines.proofs.Prelude.{slice_get-get_or, nat_tests, Change}
use Rattle.log_lines.proofs.KeptLemmas.{keeps_behind}
use Rattle.log_lines.proofs.TextLemmas.{items_text, items_text_more}
use Rattle.log_lines.proofs.writing.changes.Goals.{in-Some+in_ok-change, then-at-eq0, else-at-eq0, in_default}
use Rattle.log_lines.proofs.writing.changes.Goals as goal

slice_get_some : (cs : List Change) (k : ℕ) → k < length cs
    → (c : Change) × (slice_get cs k ≡ Some c)
slice_get_some [] k h = absurd (omega (arith, h))
slice_get_some (c ∷ cs) k h = (get_or (c ∷ cs) k c, slice_get-get_or (c ∷ cs) k c h)

pub loop-at-preserved : goal.loop-at-preserved
loop-at-preserved c =
    elim c.match-get.branch [
      | in-Some+in_ok-change w ↦
          let changes = c.args.changes.now in
          let at = c.loop-at.at in
          let before : w.if-at-eq0.before ≡ cond (at == 0) 32 44 = elim w.if-at-eq0.branch [
            | then-at-eq0 x ↦ grind (arith, nat_tests, x.before-is, x.if-at-eq0.true)
            | else-at-eq0 x ↦ grind (arith, nat_tests, x.before-is, x.if-at-eq0.false)
          ] in
          let found : slice_get changes at ≡ Some w.in-Some.next.now = sym w.in-Some.ensures in
          let more =
          items_text_more changes at w.in-Some.next.now w.if-at-eq0.before found before in
          rw (w.out-is, w.in_ok-change.ensures.ok, c.loop-at.invariant, more, append_assoc)
      | in_default w ↦
          let changes = c.args.changes.now in
          let at = c.loop-at.at in
          let within : at < length changes = omega arith in
          let none : None ≡ slice_get changes at =
          ap option_copied (sym w.in_default.is) ∙ c.get.ensures in
          let some = slice_get_some changes at within in
          absurd (cc (none, some.1))
    ]

pub returns-in_err-change-clause-err : goal.returns-in_err-change-clause-err
returns-in_err-change-clause-err c =
    keeps_behind c.from_residual.result c.args.out.now.items
    (items_text (take c.loop-at.at c.args.changes.now)) c.loop-at.out.items
    c.change.new.out.items c.loop-at.invariant c.in_err-change.ensures.err
