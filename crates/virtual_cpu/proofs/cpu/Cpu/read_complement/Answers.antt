use Rattle.std.proofs.Common.{◌≡◌, ◌∙◌, sym, ap, refl, List, ◌+◌, ◌%◌, ◌<◌, length, set, true}
use Rattle.virtual_cpu.proofs.Prelude.{length-map, Letter, complements_of, template_after, SiteLists, Machine, place_after, template_of, on_template, machine_view}
use Rattle.virtual_cpu.proofs.TemplateLemmas.{template-moved, some-nop}
use Rattle.virtual_cpu.proofs.cpu.Cpu.read_complement.Goals as goal

pub returns-then-not-is_empty-clause-moved : goal.returns-then-not-is_empty-clause-moved
unfolding template_of
returns-then-not-is_empty-clause-moved c =
    let m = machine_view c.self.inside in
    let complement = c.complement_after-complement.result.complement in
    let last = c.complement_after-complement.result.last in
    let read : complement ≡ complements_of (template_of m) =
    c.complement_after-complement.ensures.complement
    ∙ ap (λ (l : List Letter). complements_of (template_after l m.heads.ip))
    c.as_slice.ensures.letters in
    let same : length (complements_of (template_of m)) ≡ length (template_of m) =
    rw length-map refl in
    let some : 0 < length complement =
    some-nop complement (λ e. let empty = c.is_empty.ensures.1 e in cc) in
    let moved : last ≡ (m.heads.ip + length complement) % length m.memory =
    c.complement_after-complement.ensures.last
    ∙ ap (λ n. (m.heads.ip + length complement) % n) c.as_slice.ensures.length in
    let place : c.place_after_ip-first.result ≡ place_after m m.heads.ip =
    c.place_after_ip-first.ensures.place
    ∙ sym (ap (λ (k : Machine). place_after k k.heads.ip) c.self.view_is) in
    ap (λ (s : SiteLists). record m {
      memory = s.letters;
      clean = s.clean;
      executed = s.executed;
      copied = s.copied;
      heads = record m.heads { ip = last };
    }) c.mark_executed.ensures
    ∙ template-moved m _ last (length complement) (ap length read ∙ same) some
    (ap (λ p. set m.executed p true) place) moved ∙ ap on_template c.self.view_is
