use Rattle.std.proofs.Common.{◌∙◌, ◌++◌, ℕ, List, ap}
use Rattle.saved_lines.proofs.Prelude.{words_text, nops_text, signed_words}
use Rattle.saved_lines.proofs.TextLemmas.{OnOk_then, stacks_made}
use Rattle.saved_lines.proofs.writing.nops_and_stacks.Goals as goal

pub returns-clause-ok : goal.returns-clause-ok
returns-clause-ok c =
    let old = c.args.out.now.items in
    let image = c.args.image.now in
    let first = signed_words image.first in
    let second = signed_words image.second in
    let stacks = stacks_made old (nops_text image.nops) first second in
    OnOk_then c.integers-2.result c.integers-2.ensures.ok (λ last. last
    ∙ ap (λ (l : List ℕ). l ++ words_text second) (c.in_ok-integers.ensures.ok
    ∙ ap (λ (l : List ℕ). l ++ words_text first) c.in_ok-template.ensures.ok) ∙ stacks)
