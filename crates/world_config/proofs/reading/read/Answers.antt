use Rattle.std.proofs.Common.{◌∙◌, sym, inl, inr}
use Rattle.world_config.proofs.Prelude.{cases_Bool, false≢true, IsUtf8-from_is_utf8, is_utf8-from_IsUtf8, is_utf8}
use Rattle.world_config.proofs.reading.read.Goals as goal

pub returns-in-Ok-clause-ok : goal.returns-in-Ok-clause-ok
returns-in-Ok-clause-ok c =
    rw (is_utf8-from_IsUtf8 c.args.bytes.now c.in-Ok.ensures.ok.0, c.in-Ok.ensures.ok.1)
    c.config_in.ensures.value

pub returns-in-Ok-clause-refused : goal.returns-in-Ok-clause-refused
returns-in-Ok-clause-refused c =
    rw (is_utf8-from_IsUtf8 c.args.bytes.now c.in-Ok.ensures.ok.0, c.in-Ok.ensures.ok.1)
    c.config_in.ensures.refused

pub returns-in-Err-2-clause-refused : goal.returns-in-Err-2-clause-refused
returns-in-Err-2-clause-refused c = λ _.
    elim (cases_Bool (is_utf8 c.args.bytes.now)) [
      | inl text ↦ rw (
        text,
        c.in-Err.ensures.refused
            (λ m. false≢true (sym c.if-is_memory.false ∙ c.is_memory.ensures.1 m))
            (IsUtf8-from_is_utf8 c.args.bytes.now text),
      )
      | inr other ↦ rw other
    ]
