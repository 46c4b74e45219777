-- What begins with a longer list begins with its front.
use Rattle.std.proofs.Common.{◌≡◌, List, ◌++◌, length, take, drop, sym, ap, ◌∙◌, append_assoc, subst, Result, Ok, Err}
use Rattle.std.specs.Prelude.{OnErr}
use Rattle.log_lines.proofs.Prelude.{take-append-drop, take-append_seam, Keeps}

-- a list that begins with two lists begins with the first one
pub keeps_front : {A : Type 0} (a b c : List A) → Keeps (a ++ b) c → Keeps a c
keeps_front {A = A} a b c kept =
    let n = length (a ++ b) in
    let whole : c ≡ a ++ (b ++ drop n c) = sym (take-append-drop n c)
    ∙ ap (λ (l : List A). l ++ drop n c) kept.front ∙ append_assoc a b (drop n c) in
    record {
      front = ap (λ (l : List A). take (length a) l) whole
          ∙ take-append_seam a (b ++ drop n c);
    }

-- what was appended to stands in front, also where an error is answered
pub keeps_before : {T E A : Type 0} (result : Result T E) (a b c : List A) → c ≡ a ++ b
    → OnErr result (Keeps a c)
keeps_before (Ok done) a b c is = tt
keeps_before {A = A} (Err stop) a b c is =
    record { front = ap (λ (l : List A). take (length a) l) is ∙ take-append_seam a b }

-- what was appended to what was appended to stands in front, also where an error is answered
pub keeps_behind : {T E A : Type 0} (result : Result T E) (a b m c : List A) → m ≡ a ++ b
    → Keeps m c → OnErr result (Keeps a c)
keeps_behind (Ok done) a b m c is kept = tt
keeps_behind {A = A} (Err stop) a b m c is kept =
    keeps_front a b c (subst (λ (l : List A). Keeps l c) is kept)
