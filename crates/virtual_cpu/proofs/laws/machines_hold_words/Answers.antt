use Rattle.virtual_cpu.proofs.Prelude.{letter_under_ip, with_ip_marked, step}
use Rattle.virtual_cpu.proofs.MachineLemmas.{marked}
use Rattle.virtual_cpu.proofs.WordLemmas.{fresh-words, effect-words}
use Rattle.virtual_cpu.proofs.laws.machines_hold_words.Goals as goal

pub returns-clause-start : goal.returns-clause-start
returns-clause-start c = fresh-words

pub returns-clause-step : goal.returns-clause-step
unfolding step
returns-clause-step c = λ m input copy is h word. effect-words (letter_under_ip m)
    (with_ip_marked m) input copy (marked m is)
    (record { ax = h.ax; bx = h.bx; cx = h.cx; stacks = h.stacks }) word
