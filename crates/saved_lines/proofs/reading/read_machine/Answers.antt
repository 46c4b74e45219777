use Rattle.std.proofs.Common.{None, Some, ap}
use Rattle.std.specs.Prelude.{option_copied, option_map}
use Rattle.saved_lines.proofs.Prelude.{words_of, machine_of}
use Rattle.saved_lines.proofs.MachineLemmas.{Begins, Texts, machine_read, no_second}
use Rattle.saved_lines.proofs.reading.read_machine.Goals.{In-Some-signed_first}
use Rattle.saved_lines.proofs.reading.read_machine.Goals as goal

-- the first fields were read
begins : (c : In-Some-signed_first) → Begins c.in-Some.found.0 c.in-Some-numbers_first.found.0
    c.in-Some-nops_first.nops c.in-Some-signed_first.found.0 (words_of (option_copied c.args.rest))
    (words_of (option_copied c.in-Some-signed_first.found.1))
begins c =
    record {
      after_registers = words_of (option_copied c.in-Some.found.1);
      after_numbers = words_of (option_copied c.in-Some-numbers_first.found.1);
      after_nops = words_of (option_copied c.in-Some-nops_first.rest);
      registers_read = c.in-Some.ensures;
      numbers_read = c.in-Some-numbers_first.ensures.read;
      nops_read = c.in-Some-nops_first.ensures;
      first_read = c.in-Some-signed_first.ensures;
    }

pub returns-in_default-signed_first-2 : goal.returns-in_default-signed_first-2
returns-in_default-signed_first-2 c =
    ap (option_map machine_of)
    (no_second (begins (goal.at.returns-in_default-signed_first-2 c).In-Some-signed_first)
    c.in_default-signed_first-2.ensures)

pub returns-in-Some-2 : goal.returns-in-Some-2
returns-in-Some-2 c =
    let texts : Texts = (
      c.in-Some-2.field-0.memory,
      (c.in-Some-2.field-0.clean, (c.in-Some-2.field-0.executed, c.in-Some-2.field-0.copied)),
    ) in
    let got = rw c.in-Some-2.is at c.in_ok-memory.ensures in
    let read = machine_read (begins (goal.at.returns-in-Some-2 c).In-Some-signed_first)
    (Some texts) c.in-Some-signed_first-2.ensures got in
    rw (c.active_of.ensures, c.heads_of-heads.ensures) (ap (option_map machine_of) read)

pub returns-in-None : goal.returns-in-None
returns-in-None c =
    let got = rw c.in-None.is at c.in_ok-memory.ensures in
    ap (option_map machine_of)
    (machine_read (begins (goal.at.returns-in-None c).In-Some-signed_first) None
    c.in-Some-signed_first-2.ensures got)
