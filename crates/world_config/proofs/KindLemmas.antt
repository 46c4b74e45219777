-- What the kind of a row accepts.
use Rattle.std.proofs.Common.{◌≡◌, ℕ, ◌≤◌, List, length, None, Ok, pos, refl, ap, ◌∙◌, arith, le-leb}
use Rattle.world_config.proofs.Prelude.{Data, string, integer, boolean, array, Letter, spelled_by_letters, Key, Kind, number, flag, genome, events, item_count, refusal_of, unless_genome, unless_within}
use Rattle.mutations.specs.RecordForm.{IsWithin}

-- a number within its bounds is not refused
pub unless_within-none : (key : Key) (least greatest n : ℕ) → least ≤ n → n ≤ greatest
    → unless_within key least greatest (pos n) ≡ None
unless_within-none key least greatest n low high =
    rw (le-leb least n low, le-leb n greatest high) refl

-- the value is of the kind, and within its bounds
abbrev pub IsOfKind : Kind → Data → Type 0
IsOfKind (number least greatest) (integer (pos n)) = IsWithin least greatest n
IsOfKind flag (boolean b) = Unit {0}
IsOfKind (genome least greatest) (string text) =
    (ls : List Letter) × (spelled_by_letters text ≡ Ok ls) × IsWithin least greatest (length ls)
IsOfKind (events most) (array items) = item_count items ≤ most
IsOfKind _ _ = ⊥

-- a value that fits is not refused
pub accepted_value : (kind : Kind) (key : Key) (d : Data) → IsOfKind kind d
    → refusal_of kind key d ≡ None
accepted_value (number least greatest) key (integer (pos n)) fits =
    unless_within-none key least greatest n fits.0 fits.1
accepted_value flag key (boolean b) fits = refl
accepted_value (genome least greatest) key (string text) (ls, read, within) =
    ap (unless_genome key least greatest) read
    ∙ unless_within-none key least greatest (length ls) within.0 within.1
accepted_value (events most) key (array items) fits =
    unless_within-none key 0 most (item_count items) (omega arith) fits
accepted_value _ key _ fits = absurd fits
