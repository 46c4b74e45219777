use Rattle.std.proofs.Common.{length, sym, ◌≡◌, ℕ, ap, ◌∙◌, arith}
use Rattle.organism.proofs.Prelude.{letters, word_of, OrganismState, setting_numbers, clean_text, written_text}
use Rattle.organism.proofs.BirthLemmas.{IfOk-map2, IfOk-then, OnOk-then, birth_record-of, after_child-of, child_letters-of, child_part-length}
use Rattle.organism.proofs.organism.Organism.child.Goals as goal

pub divide_errors-requires-clause-texts : goal.divide_errors-requires-clause-texts
divide_errors-requires-clause-texts c =
    let state = c.args.self.now in
    let ask = c.args.ask.now in
    let clean : letters c.in_ok-cut.cut.clean ≡ clean_text state ask =
    c.in_ok-cut.ensures.clean ∙ ap (λ (o : OrganismState). clean_text o ask) c.self.view_is in
    let written : letters c.in_ok-cut.cut.written ≡ written_text state ask =
    c.in_ok-cut.ensures.written
    ∙ ap (λ (o : OrganismState). written_text o ask) c.self.view_is in
    let long = ap length written
    ∙ child_part-length state.machine.memory ask.read ask.end c.requires.divide.child_within in
    record {
      one_length = ap length clean
          ∙ child_part-length state.machine.clean ask.read ask.end c.requires.divide.clean_within
          ∙ sym long;
      within = record {
        least = omega (arith, long, c.requires.child.least);
        greatest = omega (arith, long, c.requires.child.greatest);
      };
    }

clean : (c : goal.After-drop-cut-2)
    → letters c.in_ok-cut.cut.clean ≡ clean_text c.args.self.now c.args.ask.now
clean c = c.in_ok-cut.ensures.clean
    ∙ ap (λ (o : OrganismState). clean_text o c.args.ask.now) c.self.view_is

written : (c : goal.After-drop-cut-2)
    → letters c.in_ok-cut.cut.written ≡ written_text c.args.self.now c.args.ask.now
written c = c.in_ok-cut.ensures.written
    ∙ ap (λ (o : OrganismState). written_text o c.args.ask.now) c.self.view_is

parent : (c : goal.After-drop-cut-2) → letters c.deref.result.now ≡ c.args.self.now.genome
parent c = ap letters c.deref.ensures ∙ ap (λ (o : OrganismState). o.genome) c.self.view_is

pub returns-clause-origin : goal.returns-clause-origin
returns-clause-origin c =
    IfOk-then _ _ c.divide_errors.result c.divide_errors.ensures.origin (λ born h. h
    ∙ birth_record-of (setting_numbers c.args.settings.now) (word_of c.args.draws.now)
    c.args.draws.now.taken c.args.self.now c.args.ask.now _ _ _ (clean c) (written c) (parent c))

pub returns-clause-genome : goal.returns-clause-genome
returns-clause-genome c =
    IfOk-map2 _ _ _ (λ born origin child. child_letters-of (setting_numbers c.args.settings.now)
    (word_of c.args.draws.now) c.args.draws.now.taken c.args.self.now c.args.ask.now _ _ _
    (parent c) origin child) c.divide_errors.result (returns-clause-origin c)
    c.divide_errors.ensures.child

pub returns-clause-longest : goal.returns-clause-longest
returns-clause-longest c =
    IfOk-then _ _ c.divide_errors.result c.divide_errors.ensures.length (λ born h. h.greatest)

pub returns-clause-stream : goal.returns-clause-stream
returns-clause-stream c =
    OnOk-then _ _ c.divide_errors.result c.divide_errors.ensures.taken
    (λ h. h.words ∙ ap (λ (n : ℕ). record c.args.draws.now { taken = n })
    (after_child-of (setting_numbers c.args.settings.now) (word_of c.args.draws.now)
    c.args.draws.now.taken c.args.self.now c.args.ask.now _ _ (clean c) (written c)))

pub returns-clause-taken : goal.returns-clause-taken
returns-clause-taken c =
    let ask = c.args.ask.now in
    let long = ap length (written c)
    ∙ child_part-length c.args.self.now.machine.memory ask.read ask.end
    c.requires.divide.child_within in
    OnOk-then _ _ c.divide_errors.result c.divide_errors.ensures.taken
    (λ h. omega (
      arith,
      h.most,
      long,
      c.requires.child.greatest,
      c.args.settings.now.rules.short_enough,
    ))
