-- The least unknown key of a table whose keys ascend is the first.
use Rattle.std.proofs.Common.{◌≡◌, ℕ, false, not, List, [], ◌∷◌, Option, Some, None, option_map, String, Global, string_bytes, refl, Less, nat_cmp, inl, inr}
use Rattle.world_config.proofs.Prelude.{find, AllByRecursion, IsStrictlySortedBy, is_lt, slice_cmp, string_cmp, cases_Bool, members_view, Entry, is_known, least_of, least_unknown}
use Rattle.std.specs.Bool.{⊤}
use Rattle.std.specs.Map.{keys_of}
use Rattle.std.proofs.lemmas.Cmp.{nat_list_cmp_total}

-- the key is not below this one
abbrev IsNotBelow : List ℕ → Option (List ℕ) → Type 0
IsNotBelow key None = ⊤
IsNotBelow key (Some other) = is_lt (slice_cmp nat_cmp other key) ≡ false

-- the lesser of two keys is the first where it is not below the other
least_of-not_below : (key : List ℕ) (o : Option (List ℕ)) → IsNotBelow key o → least_of key o ≡ key
least_of-not_below key None h = refl
least_of-not_below key (Some other) h = rw h refl

-- what is above is not below
greater_reversed : (a b : List ℕ) → slice_cmp nat_cmp a b ≡ Less
    → is_lt (slice_cmp nat_cmp b a) ≡ false
greater_reversed a b h = rw (nat_list_cmp_total.antisymm b a, h) refl

-- the lesser of two keys is not below what neither is below
least_of-above : (key k : List ℕ) (o : Option (List ℕ)) → is_lt (slice_cmp nat_cmp k key) ≡ false
    → IsNotBelow key o → is_lt (slice_cmp nat_cmp (least_of k o) key) ≡ false
least_of-above key k None h n = h
least_of-above key k (Some other) h n =
    elim (cases_Bool (is_lt (slice_cmp nat_cmp other k))) [
      | inl less ↦ rw less n
      | inr more ↦ rw more h
    ]

-- the unknown keys after a key are not below it
not_below : (key : String Global) (es : List Entry)
    → AllByRecursion (λ y. string_cmp key y ≡ Less) (keys_of es)
    → IsNotBelow (string_bytes key) (least_unknown (members_view es))
not_below key [] h = tt
not_below key (e ∷ es) h =
    elim (cases_Bool (is_known (string_bytes e.0))) [
      | inl known ↦ rw known (not_below key es h.1)
      | inr other ↦ rw other (least_of-above (string_bytes key) (string_bytes e.0) _
          (greater_reversed (string_bytes key) (string_bytes e.0) h.0) (not_below key es h.1))
    ]

-- the first unknown key of ascending entries is the least
pub first_is_least : (es : List Entry) → IsStrictlySortedBy string_cmp (keys_of es)
    → option_map string_bytes (find (λ k. not (is_known (string_bytes k))) (keys_of es))
    ≡ least_unknown (members_view es)
unfolding IsStrictlySortedBy
first_is_least [] h = refl
first_is_least (e ∷ es) h =
    elim (cases_Bool (is_known (string_bytes e.0))) [
      | inl known ↦ rw known (first_is_least es h.1)
      | inr other ↦ rw (other, least_of-not_below (string_bytes e.0) _ (not_below e.0 es h.0)) refl
    ]

-- a value behind a reference, mapped
pub bytes_of_ref : {X Y : Type 0} (f : X → Y) (o : Option (Rattle.std.specs.Borrow.Bor X))
    → option_map (λ s. f s.now) o ≡ option_map f (option_map (λ s. s.now) o)
bytes_of_ref f None = refl
bytes_of_ref f (Some x) = refl
