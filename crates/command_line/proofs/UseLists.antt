-- What the uses give for each of a list of names.
use Rattle.std.proofs.Common.{◌≡◌, ◌∙◌, arith, refl, ap, ℕ, zero, suc, true, false, is_some, List, [], ◌∷◌, ◌++◌, map, slice_get, slice_set, Option, Some}
use Rattle.command_line.proofs.Prelude.{bytes_eq, common_steps, or_parts, Text, are_distinct, has_name}
use Rattle.command_line.proofs.Names.{bytes_same, bytes_turned, head_apart, place_of, same_text}
use Rattle.command_line.proofs.Uses.{Use, value_in}

-- the value of each of these names, where it has one
abbrev pub seen : List Use → List Text → List (Option Text)
seen uses names = map (λ m. value_in m uses) names

-- an id that has a value has the same one after one more use
pub value_kept : (id v : Text) (uses : List Use) (u : Use) → value_in id uses ≡ Some v
    → value_in id (uses ++ u ∷ []) ≡ Some v
value_kept id v [] u is = cc
value_kept id v (x ∷ xs) u is = grind (arith, common_steps, value_kept id v xs u)

-- a use of another id doesn't change the value of this one
pub value_other : (id : Text) (uses : List Use) (u : Use) → bytes_eq u.id id ≡ false
    → value_in id (uses ++ u ∷ []) ≡ value_in id uses
value_other id [] u other = rw other refl
value_other id (x ∷ xs) u other = rw (value_other id xs u other) refl

-- the first use of an id gives it its value
pub value_new : (id : Text) (uses : List Use) (u : Use) → bytes_eq u.id id ≡ true
    → is_some (value_in id uses) ≡ false → value_in id (uses ++ u ∷ []) ≡ Some u.value
value_new id [] u same none = rw same refl
value_new id (x ∷ xs) u same none = grind (arith, common_steps, value_new id xs u same)

-- names of which the use is none
pub seen_kept : (names : List Text) (uses : List Use) (u : Use) → has_name u.id names ≡ false
    → seen (uses ++ u ∷ []) names ≡ seen uses names
seen_kept [] uses u none = refl
seen_kept (m ∷ ms) uses u none =
    let p = or_parts (bytes_eq m u.id) (has_name u.id ms) none in
    rw (value_other m uses u (bytes_turned u.id m ∙ p.0), seen_kept ms uses u p.1) refl

-- names of which the use is one
pub seen_set : (names : List Text) (uses : List Use) (u : Use) (i : ℕ)
    → place_of u.id names ≡ Some i → are_distinct names ≡ true
    → is_some (value_in u.id uses) ≡ false
    → seen (uses ++ u ∷ []) names ≡ slice_set (seen uses names) i (Some u.value)
seen_set [] uses u i at one none = cc
seen_set (m ∷ ms) uses u zero at one none =
    let a : bytes_eq m u.id ≡ true = grind (arith, common_steps) in
    let same : m ≡ u.id = same_text m u.id a in
    rw (same, value_new u.id uses u (bytes_same u.id) none)
    (ap (λ rest. Some u.value ∷ rest) (seen_kept ms uses u (rw (← same) (head_apart m ms one).0)))
seen_set (m ∷ ms) uses u (suc i) at one none =
    let a : bytes_eq m u.id ≡ false = grind (arith, common_steps) in
    let place : place_of u.id ms ≡ Some i = grind (arith, common_steps) in
    rw (value_other m uses u (bytes_turned u.id m ∙ a))
    (ap (λ rest. value_in m uses ∷ rest) (seen_set ms uses u i place (head_apart m ms one).1 none))

-- what stands at the place of a name
pub seen_at : (names : List Text) (uses : List Use) (name : Text) (i : ℕ)
    → place_of name names ≡ Some i → slice_get (seen uses names) i ≡ Some (value_in name uses)
seen_at [] uses name i at = cc
seen_at (m ∷ ms) uses name zero at =
    let a : bytes_eq m name ≡ true = grind (arith, common_steps) in
    ap (λ n. Some (value_in n uses)) (same_text m name a)
seen_at (m ∷ ms) uses name (suc i) at =
    seen_at ms uses name i (grind (arith, common_steps))
