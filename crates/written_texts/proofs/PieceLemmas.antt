-- How texts that go through a held piece add up.
use Rattle.std.proofs.Common.{◌≡◌, Result, Ok, Err, ℕ, ◌+◌, ◌<◌, List, [], ◌∷◌, ◌++◌, sym, ap, ◌∙◌, append_assoc, add-one, subst, map, take, drop, get_or, length, take-append-drop}
use Rattle.std.proofs.Math.Seq.{take-suc}
use Rattle.std.proofs.lemmas.List.{map-append}
use Rattle.avida_port.specs.declared.sink.SinkStop.{SinkStop}
use Rattle.avida_port.specs.Ports.{SinkState, Puts}
use Rattle.written_texts.proofs.PutLemmas.{puts_nothing, puts_then, puts_short}
use Rattle.written_texts.specs.WrittenText.{Writes}

-- a text that is only held
pub writes_held : (a : SinkState) (old new text : List ℕ) → new ≡ old ++ text
    → Writes a a old new text (Ok tt)
writes_held a old new text e = record { ok = ([], e, puts_nothing a); err = tt }

-- a text, and a text after it
pub writes_then : {a b c : SinkState} {old held new xs : List ℕ} {r : Result (Unit {0}) SinkStop}
    (ys : List ℕ)
    → Writes a b old held xs (Ok tt) → Writes b c held new ys r → Writes a c old new (xs ++ ys) r
writes_then {old = old} {held = held} {new = new} {xs = xs} {r = Ok t} ys p q =
    let joined : (p.ok.0 ++ q.ok.0) ++ new ≡ old ++ (xs ++ ys) =
    append_assoc p.ok.0 q.ok.0 new ∙ ap (λ l. p.ok.0 ++ l) q.ok.1
    ∙ sym (append_assoc p.ok.0 held ys) ∙ ap (λ l. l ++ ys) p.ok.1 ∙ append_assoc old xs ys in
    record { ok = (p.ok.0 ++ q.ok.0, joined, puts_then q.ok.0 p.ok.2 q.ok.2); err = tt }
writes_then {a = a} {c = c} {old = old} {held = held} {xs = xs} {r = Err e} ys p q =
    let joined : p.ok.0 ++ (held ++ ys) ≡ old ++ (xs ++ ys) =
    sym (append_assoc p.ok.0 held ys) ∙ ap (λ l. l ++ ys) p.ok.1 ∙ append_assoc old xs ys in
    record {
      ok = tt;
      err = subst (λ l. Puts {T = Unit {0}} a c l (Err e)) joined
          (puts_then (held ++ ys) p.ok.2 q.err);
    }

-- a text that stopped has not come to what was to follow
pub writes_short : {a b : SinkState} {old new other xs : List ℕ} {e : SinkStop} (ys : List ℕ)
    → Writes a b old new xs (Err e) → Writes a b old other (xs ++ ys) (Err e)
writes_short {a = a} {b = b} {old = old} {xs = xs} {e = e} ys p =
    record {
      ok = tt;
      err = subst (λ l. Puts {T = Unit {0}} a b l (Err e)) (append_assoc old xs ys)
          (puts_short ys p.err);
    }

-- one more item
pub map_next : {X Y : Type 0} (f : X → Y) (xs : List X) (i : ℕ) (d : X) → i < length xs
    → map f (take (i + 1) xs) ≡ map f (take i xs) ++ f (get_or xs i d) ∷ []
map_next f xs i d h =
    rw add-one (ap (map f) (take-suc xs i d h) ∙ map-append f (take i xs) (get_or xs i d ∷ []))

-- the items up to this one, and those behind it
pub map_cut : {X Y : Type 0} (f : X → Y) (xs : List X) (i : ℕ) (d : X) → i < length xs
    → map f xs ≡ (map f (take i xs) ++ f (get_or xs i d) ∷ []) ++ map f (drop (i + 1) xs)
map_cut f xs i d h =
    ap (map f) (sym (take-append-drop (i + 1) xs))
    ∙ map-append f (take (i + 1) xs) (drop (i + 1) xs)
    ∙ ap (λ l. l ++ map f (drop (i + 1) xs)) (map_next f xs i d h)

-- one more byte
pub take_next : (xs : List ℕ) (i : ℕ) → i < length xs
    → take (i + 1) xs ≡ take i xs ++ get_or xs i 0 ∷ []
take_next xs i h = rw add-one (take-suc xs i 0 h)

-- the bytes up to this one, and those behind it
pub take_cut : (xs : List ℕ) (i : ℕ) → i < length xs
    → xs ≡ (take i xs ++ get_or xs i 0 ∷ []) ++ drop (i + 1) xs
take_cut xs i h =
    sym (take-append-drop (i + 1) xs) ∙ ap (λ l. l ++ drop (i + 1) xs) (take_next xs i h)
