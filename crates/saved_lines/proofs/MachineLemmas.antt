-- A machine's line that is read field by field.
use Rattle.std.proofs.Common.{◌≡◌, ℕ, ℤ, Bool, List, Option, Some, None, ap, ◌∙◌}
use Rattle.std.specs.Prelude.{option_map}
use Rattle.saved_lines.proofs.Prelude.{Letter, Field, Row, ◌◂◌, read_first, first_parts, signed, nops, machine_ranges, machine_row, texts_row, Front, read_several, read_within, several, within, ◌◁◌}

-- the words in front are read
front_on : {A B : Type 0} (f : Front A) (r : Row B) (words left : List (List ℕ)) (a : A)
    → Some (a, left) ≡ f.read words
    → option_map (λ b. (a, b)) (r.read left) ≡ (f ◁ r).read words
front_on f r words left a is = rw (← is)

-- the first word is read
field_on : {A B : Type 0} (f : Field A) (r : Row B) (words left : List (List ℕ)) (a : A)
    → Some (a, left) ≡ read_first f.read words
    → option_map (λ b. (a, b)) (r.read left) ≡ (f ◂ r).read words
field_on f r words left a is =
    let parts = first_parts f.read words left a is in
    rw (parts.1, parts.2)

-- the texts of a machine
abbrev pub Texts : Type 0
Texts = List Letter × (List Letter × (List Bool × List Bool))

-- the second stack and the texts
abbrev pub Behind : Type 0
Behind = List ℤ × Texts

-- what is read of a line whose first fields are these
abbrev pub machine_with :
    List ℤ → List ℕ → List Letter → List ℤ → Option Behind
    → Option (List ℤ × (List ℕ × (List Letter × (List ℤ × Behind))))
machine_with registers numbers ns first o =
    option_map (λ x. (registers, x)) (option_map (λ x. (numbers, x))
    (option_map (λ x. (ns, x)) (option_map (λ x. (first, x)) o)))

-- the first fields of a line were read of these words, and these are left
pub record Begins (registers : List ℤ) (numbers : List ℕ) (ns : List Letter) (first : List ℤ)
    (words left : List (List ℕ)) : Type 0 where
  pub after_registers : List (List ℕ)
  pub after_numbers : List (List ℕ)
  pub after_nops : List (List ℕ)
  pub registers_read : Some (registers, after_registers) ≡ read_several signed.read 3 words
  pub numbers_read : Some (numbers, after_numbers) ≡ read_within machine_ranges after_registers
  pub nops_read : Some (ns, after_nops) ≡ read_first nops.read after_numbers
  pub first_read : Some (first, left) ≡ read_several signed.read 10 after_nops

module _ {registers : List ℤ} {numbers : List ℕ} {ns : List Letter} {first : List ℤ}
    {words left : List (List ℕ)} (begins : Begins registers numbers ns first words left) where
  -- the line as its first fields leave it
  machine_begins : machine_with registers numbers ns first
      ((several 10 signed ◁ texts_row).read left) ≡ machine_row.read words
  machine_begins =
      let stacks = several 10 signed ◁ texts_row in
      let three = several 10 signed ◁ stacks in
      let two = nops ◂ three in
      let one = within machine_ranges ◁ two in
      ap (λ (o : Option (List ℤ × Behind)). option_map (λ x. (registers, x))
      (option_map (λ x. (numbers, x)) (option_map (λ x. (ns, x)) o)))
      (front_on (several 10 signed) stacks begins.after_nops left first begins.first_read)
      ∙ ap (λ (o : Option (List Letter × (List ℤ × Behind))). option_map (λ x. (registers, x))
      (option_map (λ x. (numbers, x)) o))
      (field_on nops three begins.after_numbers begins.after_nops ns begins.nops_read)
      ∙ ap (λ (o : Option (List ℕ × (List Letter × (List ℤ × Behind)))).
      option_map (λ x. (registers, x)) o)
      (front_on (within machine_ranges) two begins.after_registers begins.after_numbers numbers
      begins.numbers_read)
      ∙ front_on (several 3 signed) one words begins.after_registers registers begins.registers_read

  -- the second stack is not read
  pub no_second : None ≡ read_several signed.read 10 left → None ≡ machine_row.read words
  no_second is = rw (← machine_begins, ← is)

  -- the second stack and the texts are read, or the texts are not
  pub machine_read : {second : List ℤ} {end : List (List ℕ)} (texts : Option Texts)
      → Some (second, end) ≡ read_several signed.read 10 left → texts ≡ texts_row.read end
      → machine_with registers numbers ns first (option_map (λ x. (second, x)) texts)
      ≡ machine_row.read words
  machine_read texts e f = rw (← machine_begins, ← e, f)
