-- How what a sink gained adds up.
use Rattle.std.proofs.Common.{◌≡◌, ◌≤◌, Option, ℕ, List, [], ◌++◌, None, Some, refl, sym, ap, ◌∙◌, append_assoc, append-nil, arith}
use Rattle.std.specs.Io.KnownBytes.{append_known}
use Rattle.avida_port.specs.Ports.{Rose, SinkState, GainedPrefix}
use Rattle.avida_port.proofs.PortLemmas.{Grew}
use Rattle.written_texts.specs.SinkChanges.{Change, GainedFront, Stays}

-- no text leaves what is held
pub append_known-nothing : (held : Option (List ℕ)) → held ≡ append_known held []
append_known-nothing None = refl
append_known-nothing (Some x) = ap Some (sym (append-nil x))

-- two texts are one text
append_known-append : (held : Option (List ℕ)) (xs ys : List ℕ)
    → append_known (append_known held xs) ys ≡ append_known held (xs ++ ys)
append_known-append None xs ys = refl
append_known-append (Some x) xs ys = ap Some (append_assoc x xs ys)

-- a text, and a text after it
pub gained_then : (a b c : Option (List ℕ)) (xs ys : List ℕ) → b ≡ append_known a xs
    → c ≡ append_known b ys → c ≡ append_known a (xs ++ ys)
gained_then a b c xs ys p q = q ∙ ap (λ h. append_known h ys) p ∙ append_known-append a xs ys

-- a text, and a prefix of a text after it
pub front_then : (a b c : Option (List ℕ)) (xs ys : List ℕ) → b ≡ append_known a xs
    → Grew b c ys → Grew a c (xs ++ ys)
front_then a b c xs ys p q = (
  xs ++ q.0,
  (q.1.0, append_assoc xs q.0 q.1.0 ∙ ap (λ l. xs ++ l) q.1.1),
  gained_then a b c xs q.0 p q.2,
)

-- a prefix of a text is one of a longer text
pub front_short : (a b : Option (List ℕ)) (xs ys : List ℕ) → Grew a b xs
    → Grew a b (xs ++ ys)
front_short a b xs ys q =
    (q.0, (q.1.0 ++ ys, sym (append_assoc q.0 q.1.0 ys) ∙ ap (λ l. l ++ ys) q.1.1), q.2)

-- nothing is a prefix of every text
pub nothing_gained : (a b : SinkState) (text : List ℕ) → b ≡ a → GainedPrefix a b text
nothing_gained a b text e = ([], (text, refl), ap (λ s. s.held) e ∙ append_known-nothing a.held)

-- the same of a change
pub stays_front : (sink : Change SinkState) (text : List ℕ) → Stays sink → GainedFront sink text
stays_front sink text e = nothing_gained sink.before sink.after text e

-- a count that rose later rose
pub rose_later : (a b c : ℕ) → a ≤ b → Rose b c → Rose a c
rose_later a b c p r = grind arith
