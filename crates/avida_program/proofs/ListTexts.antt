-- The texts of a list's items, which go through a held piece one after another.
use Rattle.std.proofs.Common.{◌≡◌, ◌<◌, ◌+◌, ℕ, List, [], ◌∷◌, ◌++◌, Result, Ok, Err, refl, ap, map, add-one, append-nil, arith, take, drop, get_or, length, take-append-drop}
use Rattle.avida_program.proofs.Prelude.{flat_map, flat_map-append, SinkStop, SinkState, Writes, WritesAll, writes_short, writes_then}
use Rattle.std.proofs.Math.Seq.{take-suc}
use Rattle.std.proofs.lemmas.List.{take_all}
use Rattle.avida_port.specs.declared.sink.SinkStop.TheVariants as stop
use Rattle.avida_program.proofs.TextEnds.{stopped_within, wanting_within}

-- one more text
texts_next : {X : Type 0} (text : X → List ℕ) (xs : List X) (i : ℕ) (d : X) → i < length xs
    → flat_map text (take (i + 1) xs) ≡ flat_map text (take i xs) ++ text (get_or xs i d)
texts_next text xs i d h = rw (add-one, take-suc xs i d h, flat_map-append, append-nil) refl

-- the texts up to an item, and those from it on
texts_cut : {X : Type 0} (text : X → List ℕ) (xs : List X) (i : ℕ)
    → flat_map text (take i xs) ++ flat_map text (drop i xs) ≡ flat_map text xs
texts_cut text xs i = rw (← flat_map-append, take-append-drop) refl

-- the texts of the items' values
pub texts_of_values : {X Y : Type 0} (text : Y → List ℕ) (value : X → Y) (xs : List X)
    → flat_map text (map value xs) ≡ flat_map (λ x. text (value x)) xs
texts_of_values text value [] = refl
texts_of_values text value (x ∷ xs) = ap (λ l. text (value x) ++ l) (texts_of_values text value xs)

-- the text of the item at this place is written, or stopped
pub next_written : {X : Type 0} {a b c : SinkState} {old kept new : List ℕ}
    {r : Result (Unit {0}) SinkStop} (text : X → List ℕ) (xs : List X) (i : ℕ) (d : X)
    → Writes a b old kept (flat_map text (take i xs)) (Ok tt)
    → Writes b c kept new (text (get_or xs i d)) r → i < length xs
    → Writes a c old new (flat_map text (take (i + 1) xs)) r
next_written text xs i d p q h =
    rw (texts_next text xs i d h) (writes_then (text (get_or xs i d)) p q)

-- one more text is written, or stopped
pub item_written : {X : Type 0} {a b c : SinkState} {old kept new put : List ℕ}
    {r : Result (Unit {0}) SinkStop} (text : X → List ℕ) (xs : List X) (i : ℕ) (x : X)
    → Writes a b old kept (flat_map text (take i xs)) (Ok tt) → Writes b c kept new put r
    → put ≡ text x
    → x ≡ get_or xs i x → i < length xs → Writes a c old new (flat_map text (take (i + 1) xs)) r
item_written text xs i x p q shows is h =
    next_written text xs i x p (rw (← is, ← shows) q) h

-- a put failed, and the texts behind this item were still to come
pub item_short : {X : Type 0} {a c : SinkState} {old new other : List ℕ} {e : SinkStop}
    (text : X → List ℕ) (xs : List X) (i : ℕ)
    → Writes a c old new (flat_map text (take i xs)) (Err e)
    → Writes a c old other (flat_map text xs) (Err e)
item_short text xs i p = rw (← texts_cut text xs i) (writes_short (flat_map text (drop i xs)) p)

-- a put stopped within the texts
pub item_stopped : {X : Type 0} {a c : SinkState} {new : List ℕ} {e : SinkStop} (text : X → List ℕ)
    (xs : List X) (i : ℕ) → Writes a c [] new (flat_map text (take i xs)) (Err e)
    → WritesAll {T = Unit {0}} a c (flat_map text xs) (Err e)
item_stopped text xs i p =
    stopped_within (flat_map text (drop i xs)) (flat_map text xs) p (texts_cut text xs i)

-- memory ran out within the texts
pub items_wanting : {X : Type 0} {a b : SinkState} {kept : List ℕ} (text : X → List ℕ) (xs : List X)
    (i : ℕ) → Writes a b [] kept (flat_map text (take i xs)) (Ok tt)
    → WritesAll {T = Unit {0}} a b (flat_map text xs) (Err stop.Memory)
items_wanting text xs i p =
    wanting_within (flat_map text (drop i xs)) (flat_map text xs) p (texts_cut text xs i)

-- the texts of all items
pub items_whole : {X : Type 0} {a b : SinkState} {kept : List ℕ} (text : X → List ℕ) (xs : List X)
    (i : ℕ) → Writes a b [] kept (flat_map text (take i xs)) (Ok tt) → i ≡ length xs
    → Writes a b [] kept (flat_map text xs) (Ok tt)
items_whole text xs i p at_end = rw (at_end, take_all (length xs) xs (omega arith)) at p
