-- A saved world that is written is read again.
use Rattle.std.proofs.Common.{◌≡◌, ℕ, ◌+◌, ◌*◌, ◌<◌, ◌≤◌, true, List, [], ◌∷◌, ◌++◌, Option, Some, None, Result, Ok, length, replicate, refl, sym, ap, ◌∙◌, arith, append_assoc, append-nil, length-append, eq-eqb}
use Rattle.std.specs.Prelude.{cond, fold, is_some}
use Rattle.checkpoint.proofs.Prelude.{enumerate_from, flat_map, AllByRecursion, sum_by-cons, set-append_seam, Occupant, id_of, ids_of, image_of, machine_of_image, Machine, IsMachine, taken, HeadValues, HasSavedForm, OneSpelling, saved_line_of, SavedState, cell_text, saved_text, slot_text, values_in, SavedStop, Before, Among, Halfway, After, Placed, may_follow, may_stand, pieces_state, placed_of, saved_of, state_of_lines, told_saved_line, with_placed, AreSaved, IsWritable, cut, line_on}
use Rattle.saved_lines.specs.SavedText.{count_text, machine_text, organism_text, saved_head_text, saved_row_text, Head, Organism, Machine as MachineLine, Count}
use Rattle.checkpoint.proofs.FormLemmas.{cells_fit, machine_form, organism_form}
use Rattle.checkpoint.proofs.AgainLemmas.{above_those, follows_again, new_to_those, placed_again, stands_again, stands_itself}
use Rattle.checkpoint.proofs.WritableLemmas.{standing_from, state_saved}

-- the cells of those who stand in them
pub cells_again : (front : List (Option Occupant)) (first : ℕ) (cells : List (Option Occupant))
    → first ≡ length front
    → fold with_placed (front ++ replicate (length cells) None) (standing_from first cells)
    ≡ front ++ cells
cells_again front first [] same = refl
cells_again front first (None ∷ cells) same =
    let more : first + 1 ≡ length (front ++ None ∷ []) =
    omega (arith, same, length-append front (None ∷ [])) in
    rw (← append_assoc front (None ∷ []) (replicate (length cells) None))
    (rw (cells_again (front ++ None ∷ []) (first + 1) cells more, append_assoc) refl)
cells_again front first (Some o ∷ cells) same =
    let others : List (Option Occupant) = replicate (length cells) None in
    let more : first + 1 ≡ length (front ++ Some o ∷ []) =
    omega (arith, same, length-append front (Some o ∷ [])) in
    let placed : with_placed (front ++ None ∷ others) (record { cell = first; occupant = o })
    ≡ front ++ Some o ∷ others =
    rw (same, set-append_seam front None others (Some o)) refl in
    ap (λ (l : List (Option Occupant)). fold with_placed l (standing_from (first + 1) cells))
    (placed ∙ sym (append_assoc front (Some o ∷ []) others))
    ∙ cells_again (front ++ Some o ∷ []) (first + 1) cells more
    ∙ append_assoc front (Some o ∷ []) cells

-- the text of the first of the two lines of an organism, without its newline
abbrev organism_row_text : ℕ → Occupant → List ℕ
organism_row_text cell o = saved_row_text (Organism (values_in cell o))

-- the text of the second of them
abbrev machine_row_text : Occupant → List ℕ
machine_row_text o = saved_row_text (MachineLine (image_of o.organism.machine))

-- its lines are read again, and come in their place
pub record ReadsBack (head : HeadValues) (placed : List Placed) (cell : ℕ) (o : Occupant) : Type 0
  where
    pub organism : saved_line_of (organism_row_text cell o) ≡ Some (Organism (values_in cell o))
    pub organism_plain : AllByRecursion (λ b. 10 < b) (organism_row_text cell o)
    pub machine : saved_line_of (machine_row_text o)
        ≡ Some (MachineLine (image_of o.organism.machine))
    pub machine_plain : AllByRecursion (λ b. 10 < b) (machine_row_text o)
    pub stands : may_stand head placed (values_in cell o) ≡ true
    pub follows : may_follow head (values_in cell o) (image_of o.organism.machine) ≡ true
    pub again : placed_of head (values_in cell o) (image_of o.organism.machine)
        ≡ record { cell = cell; occupant = o }

-- so do those of all who stand in some cells
abbrev pub AllReadBack : HeadValues → List Placed → ℕ → List (Option Occupant) → Type 0
AllReadBack head placed first [] = Unit {0}
AllReadBack head placed first (None ∷ cells) = AllReadBack head placed (first + 1) cells
AllReadBack head placed first (Some o ∷ cells) =
    ReadsBack head placed first o
    × AllReadBack head (placed ++ record { cell = first; occupant = o } ∷ []) (first + 1) cells

-- a line, and what is behind it
line_apart : (line lines rest : List ℕ)
    → ((line ++ 10 ∷ []) ++ lines) ++ rest ≡ line ++ 10 ∷ (lines ++ rest)
line_apart line lines rest = simp append_assoc

-- the two lines of an organism
organism_on : (number : ℕ) (head : HeadValues) (placed : List Placed) (cell : ℕ) (o : Occupant)
    (rest : List ℕ) → ReadsBack head placed cell o
    → pieces_state number (Among head placed) (cut (slot_text cell (Some o) ++ rest))
    ≡ pieces_state (number + 1 + 1)
    (Among head (placed ++ record { cell = cell; occupant = o } ∷ [])) (cut rest)
unfolding organism_text machine_text
organism_on number head placed cell o rest back =
    let values = values_in cell o in
    let image = image_of o.organism.machine in
    let behind = machine_row_text o ++ 10 ∷ rest in
    let one : Placed = record { cell = cell; occupant = o } in
    let text : slot_text cell (Some o) ++ rest ≡ organism_row_text cell o ++ 10 ∷ behind =
    line_apart (organism_row_text cell o) (machine_row_text o ++ 10 ∷ []) rest
    ∙ ap (λ (l : List ℕ). organism_row_text cell o ++ 10 ∷ l)
    (append_assoc (machine_row_text o) (10 ∷ []) rest) in
    let first : told_saved_line (Among head placed) (Organism values)
    ≡ Some (Halfway head placed values) =
    rw back.stands refl in
    let second : told_saved_line (Halfway head placed values) (MachineLine image)
    ≡ Some (Among head (placed ++ one ∷ [])) =
    rw (back.follows, back.again) refl in
    ap (λ (l : List ℕ). pieces_state number (Among head placed) (cut l)) text
    ∙ line_on number (Among head placed) (Halfway head placed values) (organism_row_text cell o)
    behind (Organism values) back.organism_plain back.organism first
    ∙ line_on (number + 1) (Halfway head placed values) (Among head (placed ++ one ∷ []))
    (machine_row_text o) rest (MachineLine image) back.machine_plain back.machine second

-- the lines of all who stand in some cells
pub cells_on : (number : ℕ) (head : HeadValues) (placed : List Placed) (first : ℕ)
    (cells : List (Option Occupant)) (rest : List ℕ) → AllReadBack head placed first cells
    → (later : ℕ)
    × (pieces_state number (Among head placed)
    (cut (flat_map cell_text (enumerate_from first cells) ++ rest))
    ≡ pieces_state later (Among head (placed ++ standing_from first cells)) (cut rest))
cells_on number head placed first [] rest back = (
  number,
  rw (append-nil placed) refl,
)
cells_on number head placed first (None ∷ cells) rest back =
    cells_on number head placed (first + 1) cells rest back
cells_on number head placed first (Some o ∷ cells) rest back =
    let one : Placed = record { cell = first; occupant = o } in
    let others = flat_map cell_text (enumerate_from (first + 1) cells) in
    let deep =
    cells_on (number + 1 + 1) head (placed ++ one ∷ []) (first + 1) cells rest back.1 in (
      deep.0,
      rw (append_assoc (slot_text first (Some o)) others rest)
          (organism_on number head placed first o (others ++ rest) back.0 ∙ deep.1
          ∙ rw (append_assoc placed (one ∷ []) (standing_from (first + 1) cells)) refl),
    )

-- what is used of images
abbrev pub WholeImages : Type 0
WholeImages = (m : Machine) → IsMachine m → machine_of_image (image_of m) m.birth_length m.limit ≡ m

-- the lines of who stand in cells of a saved world are read again in their places
pub all_read_back : OneSpelling → WholeImages → (head : HeadValues) (placed : List Placed)
    (first : ℕ) (cells : List (Option Occupant))
    → AreSaved head (placed ++ standing_from first cells) → AllReadBack head placed first cells
all_read_back spell whole head placed first [] saved = tt
all_read_back spell whole head placed first (None ∷ cells) saved =
    all_read_back spell whole head placed (first + 1) cells saved
all_read_back spell whole head placed first (Some o ∷ cells) saved =
    let one : Placed = record { cell = first; occupant = o } in
    let others = standing_from (first + 1) cells in
    let values = values_in first o in
    let image = image_of o.organism.machine in
    let stands = stands_itself head placed one others saved in
    let sound = stands.occupant.sound in
    let line : HasSavedForm (Organism values) =
    organism_form head first o saved.values stands in
    let machine : HasSavedForm (MachineLine image) =
    machine_form o.organism.machine sound.machine sound.words in (
      record {
        organism = spell.again (Organism values) line;
        organism_plain = spell.one_line (Organism values) line;
        machine = spell.again (MachineLine image) machine;
        machine_plain = spell.one_line (MachineLine image) machine;
        stands = stands_again head first o stands placed
            (above_those head placed one others saved)
            (new_to_those head placed one others saved);
        follows = follows_again head first o stands;
        again = placed_again head first o stands whole;
      },
      all_read_back spell whole head (placed ++ one ∷ []) (first + 1) cells
          (rw (append_assoc placed (one ∷ []) others) saved),
    )

-- as many stand in cells as are counted there
counted : (first : ℕ) (cells : List (Option Occupant))
    → taken (ids_of cells) ≡ length (standing_from first cells)
counted first [] = refl
counted first (None ∷ cells) = counted (first + 1) cells
counted first (Some o ∷ cells) =
    let more : taken (ids_of (Some o ∷ cells)) ≡ 1 + taken (ids_of cells) =
    sum_by-cons (λ (slot : Option ℕ). cond (is_some slot) 1 0) (id_of (Some o)) (ids_of cells) in
    omega (arith, more, counted (first + 1) cells)

-- and they are at most the cells
few_stand : (first : ℕ) (cells : List (Option Occupant))
    → length (standing_from first cells) ≤ length cells
few_stand first [] = omega arith
few_stand first (None ∷ cells) = omega (arith, few_stand (first + 1) cells)
few_stand first (Some o ∷ cells) = omega (arith, few_stand (first + 1) cells)

-- what is written of a state is read as it
pub read_back : OneSpelling → WholeImages → (state : SavedState) → IsWritable state
    → saved_of (saved_text state) ≡ Ok state
unfolding saved_of saved_text saved_head_text count_text
read_back spell whole state is =
    let head = state.head in
    let saved = state_saved state is in
    let size : length state.cells ≡ head.width * head.height = is.valid.stand.cells in
    let standing = standing_from 0 state.cells in
    let count = taken (ids_of state.cells) in
    let lines = flat_map cell_text (enumerate_from 0 state.cells) in
    let last = saved_row_text (Count count) ++ 10 ∷ [] in
    let after = state_of_lines head standing in
    let text = line_apart (saved_row_text (Head head)) lines last in
    let first : HasSavedForm (Head head) = saved.values in
    let few : count ≤ 18446744073709551615 =
    omega (
      arith,
      counted 0 state.cells,
      few_stand 0 state.cells,
      size,
      cells_fit head.width head.height saved.values.width.1 saved.values.height.1,
    ) in
    let end : HasSavedForm (Count count) = omega (arith, few) in
    let cells = cells_on 2 head [] 0 state.cells last
    (all_read_back spell whole head [] 0 state.cells saved) in
    let ends : told_saved_line (Among head standing) (Count count) ≡ Some (After after) =
    rw (eq-eqb count (length standing) (counted 0 state.cells)) refl in
    let with_cells = λ (cells : List (Option Occupant)).
    let birth_length : SavedState = record { head = head; cells = cells } in birth_length in
    let again : after ≡ state =
    ap with_cells
    (ap (λ (n : ℕ). fold with_placed (replicate n None) standing) (sym size)
    ∙ cells_again [] 0 state.cells refl) in
    ap (λ (l : List ℕ). pieces_state 1 Before (cut l)) text
    ∙ line_on 1 Before (Among head []) (saved_row_text (Head head)) (lines ++ last) (Head head)
    (spell.one_line (Head head) first) (spell.again (Head head) first) refl
    ∙ cells.1
    ∙ line_on cells.0 (Among head standing) (After after) (saved_row_text (Count count)) []
    (Count count)
    (spell.one_line (Count count) end) (spell.again (Count count) end) ends
    ∙ ap (λ (s : SavedState). let read : Result SavedState SavedStop = Ok s in read) again
