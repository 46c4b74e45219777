use Rattle.std.proofs.Common.{◌≡◌, ◌∷◌, ◌++◌, ◌∙◌, [], ℕ, List, get_or, refl, ap}
use Rattle.genome.proofs.ListLemmas.{all_append}
use Rattle.log_lines.proofs.Prelude.{FitsChange, change_text}
use Rattle.log_lines.proofs.BirthFrontLemmas.{byte_front, comma_read, end_read}
use Rattle.log_lines.proofs.front.list_front.Goals.{After-push}
use Rattle.log_lines.proofs.front.list_front.Goals as goal

-- what is left begins with the change
begins : (c : After-push) → c.loop-left.left.now ≡ change_text c.in-Some.one ++ c.in-Some.others.now
begins c = byte_front c.loop-left.left.now (get_or c.loop-left.left.now 0 0)
    c.in-len1-up.len_at_least refl ∙ c.in-Some.ensures.text

pub loop-left-preserved : goal.loop-left-preserved
loop-left-preserved c =
    let cs = c.loop-left.found.items in
    let one = c.in-Some.one in (
      comma_read c.args.text.now c.loop-left.left.now c.in-Some-behind.further.now cs
          c.push.new.self.items one c.loop-left.invariant.0 c.in_ok-push.ensures.items
          (begins (goal.at.loop-left-preserved c).After-push
          ∙ ap (λ (l : List ℕ). change_text one ++ l) c.in-Some-behind.ensures),
      rw c.in_ok-push.ensures.items (all_append FitsChange cs (one ∷ []) c.loop-left.invariant.1
          (c.in-Some.ensures.form, tt)),
    )

pub returns-in_default-behind-clause-text : goal.returns-in_default-behind-clause-text
returns-in_default-behind-clause-text c =
    let one = c.in-Some.one in
    end_read c.args.text.now c.loop-left.left.now c.in-Some-behind-2.further.now
    c.loop-left.found.items c.push.new.self.items one c.loop-left.invariant.0
    c.in_ok-push.ensures.items
    (begins (goal.at.returns-in_default-behind-clause-text c).After-push
    ∙ ap (λ (l : List ℕ). change_text one ++ l) c.in-Some-behind-2.ensures)
