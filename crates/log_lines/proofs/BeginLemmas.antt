-- Reading a row in two steps: its first fields, and then the row behind them.
use Rattle.std.proofs.Common.{arith, ◌≡◌, ℕ, List, [], ◌∷◌, Option, Some, None, refl}
use Rattle.std.specs.Prelude.{option_and_then, option_map}
use Rattle.log_lines.proofs.Prelude.{common_steps, Letter, Change, number, genome_of_word, birth_form, start_form, small, large, over_field, record_row, side, read_both, read_last, read_as, read_arrival, read_first, read_newborn, read_opening, read_then}
use Rattle.log_lines.specs.declared.reading.Arrival.{Arrival}
use Rattle.log_lines.specs.declared.reading.Newborn.{Newborn}
use Rattle.log_lines.specs.declared.reading.Opening.{Opening}

-- the words that are left of a line
abbrev pub Left : Type 0
Left = List (List ℕ)

-- two values
abbrev pair : {A B : Type 0} → A → B → A × B
pair a b = (a, b)

-- what is read of the first fields, with what is read of the words behind them
abbrev pub with_behind :
    {A B C : Type 0} → (A → B → C) → (Left → Option B) → Option (A × Left) → Option C
with_behind make behind found = option_and_then (λ (a, left). option_map (make a) (behind left)) found

-- the row is read by reading its first fields, and then the row behind them
abbrev pub Begins :
    {A B C : Type 0} → (Left → Option C) → (Left → Option (A × Left)) → (Left → Option B)
    → (A → B → C) → Type 0
Begins row first behind make = (words : Left) → with_behind make behind (first words) ≡ row words

-- one field that was read, or not
one_field : {A B : Type 0} (behind : Left → Option B) (words : Left) (found : Option A)
    → with_behind pair behind (option_map (λ a. (a, words)) found)
    ≡ option_and_then (λ a. option_map (λ b. (a, b)) (behind words)) found
one_field behind words found = grind (arith, common_steps)

-- a row begins with its first field
begins_one : {A B : Type 0} (read : List ℕ → Option A) (behind : Left → Option B)
    → Begins (read_both read behind) (read_first read) behind pair
begins_one read behind [] = refl
begins_one read behind (word ∷ words) = one_field behind words (read word)

module _ {A B C D E : Type 0} (read : List ℕ → Option A) (row : Left → Option D)
    (first : Left → Option (B × Left)) (behind : Left → Option C) (make : B → C → D)
    (put : A → B → E) (all : E → C → A × D)
    (is : (a : A) (b : B) (c : C) → all (put a b) c ≡ pair a (make b c)) where
  -- the first fields behind one were read, or not
  at_next : (a : A) (found : Option (B × Left))
      → with_behind all behind (option_map (λ (b, left). (put a b, left)) found)
      ≡ option_map (pair a) (with_behind make behind found)
  at_next a found = grind (arith, common_steps, is a)

  -- the field in front was read, or not
  at_first : (words : Left) (found : Option A) → with_behind make behind (first words) ≡ row words
      → with_behind all behind
      (option_and_then (λ (a, left). option_map (λ (b, rest). (put a b, rest)) (first left))
      (option_map (λ a. (a, words)) found))
      ≡ option_and_then (λ a. option_map (λ d. (a, d)) (row words)) found
  at_first words found begins =
      grind (arith, common_steps, begins, λ (a : A). at_next a (first words))

  -- one field more in front
  begins_more : Begins row first behind make
      → Begins (read_both read row) (read_then read first put) behind all
  begins_more begins [] = refl
  begins_more begins (word ∷ words) = at_first words (read word) (begins words)

-- ---- a row behind an arrival

-- an update with a cell and who stood there
abbrev put_arrival : ℕ → ℕ × Option ℕ → Arrival
put_arrival update (cell, over) = record { update = update; cell = cell; over = over }

-- the fields of a cell, who stood there and a row behind them
abbrev place_fields : {B : Type 0} → ℕ × Option ℕ → B → ℕ × (Option ℕ × B)
place_fields (cell, over) b = (cell, (over, b))

-- the fields of an arrival and a row behind it
abbrev arrival_fields : {B : Type 0} → Arrival → B → ℕ × (ℕ × (Option ℕ × B))
arrival_fields arrival b = (arrival.update, (arrival.cell, (arrival.over, b)))

-- a row behind an arrival is read after it
arrival_begins : {B : Type 0} (behind : Left → Option B)
    → Begins (read_both small.read (read_both small.read (read_both over_field.read behind)))
    read_arrival behind arrival_fields
arrival_begins behind =
    begins_more small.read _ _ behind place_fields put_arrival _ (λ a b c. refl)
    (begins_more small.read _ _ behind pair pair _ (λ a b c. refl)
    (begins_one over_field.read behind))

-- ---- a birth

-- the record of a birth
abbrev pub Record : Type 0
Record = Option (List Letter) × List Change

-- an id with a parent and an arrival
abbrev put_newborn : ℕ → ℕ × Arrival → Newborn
put_newborn id (parent, arrival) = record { id = id; parent = parent; arrival = arrival }

-- the fields of a parent, an arrival and a record
abbrev parent_fields : ℕ × Arrival → Record → ℕ × (ℕ × (ℕ × (Option ℕ × Record)))
parent_fields (parent, arrival) birth = (parent, arrival_fields arrival birth)

-- the fields of a birth
abbrev birth_fields : Newborn → Record → ℕ × (ℕ × (ℕ × (ℕ × (Option ℕ × Record))))
birth_fields n birth = (n.id, (n.parent, arrival_fields n.arrival birth))

-- the row of a birth's line begins with what stands before the record
birth_begins : Begins birth_form.row.read read_newborn record_row.read birth_fields
birth_begins =
    let behind = record_row.read in
    begins_more large.read _ _ behind parent_fields put_newborn _ (λ a b c. refl)
    (begins_more large.read _ read_arrival behind arrival_fields pair _ (λ a b c. refl)
    (arrival_begins behind))

-- no birth, where what stands before the record is not readable
pub birth_none : (words : Left) → None ≡ read_newborn words → None ≡ read_as birth_form words
birth_none words none = rw (← birth_begins words, ← none)

-- a birth with the record that is read, or none
pub birth_some : (words left : Left) (n : Newborn) (birth : Option Record)
    → Some (n, left) ≡ read_newborn words → birth ≡ record_row.read left
    → option_map (λ b. birth_form.line (birth_fields n b)) birth
    ≡ read_as birth_form words
birth_some words left n (Some birth) some is = rw (← birth_begins words, ← some, ← is)
birth_some words left n None some is = rw (← birth_begins words, ← some, ← is)

-- ---- a first line

-- a version with a width, a height and a cell
abbrev put_opening : ℕ → ℕ × (ℕ × ℕ) → Opening
put_opening version (width, (height, cell)) =
    record { version = version; width = width; height = height; cell = cell }

-- the fields of a height, a cell and a genome
abbrev height_fields : ℕ × ℕ → List Letter → ℕ × (ℕ × List Letter)
height_fields (height, cell) genome = (height, (cell, genome))

-- the fields of a width, a height, a cell and a genome
abbrev width_fields : ℕ × (ℕ × ℕ) → List Letter → ℕ × (ℕ × (ℕ × List Letter))
width_fields (width, (height, cell)) genome = (width, (height, (cell, genome)))

-- the fields of a first line
abbrev start_fields : Opening → List Letter → ℕ × (ℕ × (ℕ × (ℕ × List Letter)))
start_fields o genome = (o.version, (o.width, (o.height, (o.cell, genome))))

-- the row of a first line begins with what stands before the genome
start_begins : Begins start_form.row.read read_opening (read_last genome_of_word) start_fields
start_begins =
    let behind = read_last genome_of_word in
    begins_more (number 1 2).read _ _ behind width_fields put_opening _ (λ a b c. refl)
    (begins_more side.read _ _ behind height_fields pair _ (λ a b c. refl)
    (begins_more side.read _ _ behind pair pair _ (λ a b c. refl)
    (begins_one small.read behind)))

-- no first line, where what stands before the genome is not readable
pub start_none : (words : Left) → None ≡ read_opening words → None ≡ read_as start_form words
start_none words none = rw (← start_begins words, ← none)

-- a first line with the genome that is read, or none
pub start_some : (words left : Left) (o : Opening) (found : Option (List Letter))
    → Some (o, left) ≡ read_opening words → found ≡ read_last genome_of_word left
    → option_map start_form.line (option_map (start_fields o) found) ≡ read_as start_form words
start_some words left o found some is = rw (← start_begins words, ← some, is)
