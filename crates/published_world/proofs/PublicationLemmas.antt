-- Histories, and one picture more.
use Rattle.std.proofs.Common.{◌≡◌, ℕ, zero, suc, ◌+◌, ◌-◌, ◌<◌, ◌≤◌, List, [], ◌∷◌, ◌++◌, length, get_or, Some, slice_get, All, Result, Ok, Err, IfOk, ap, sym, subst, ◌∙◌, ⊎_elim, arith, length-append}
use mathlib.Core.List.{IsPrefix}
use Rattle.published_world.specs.PublicationHistory.{first_of, last_of, IsPublication, MayFollow}
use Rattle.published_world.proofs.PrefixLemmas.{prefix_length, get_at, get_in_longer, get_in_more, get_last}

module _ {P : Type 0} where
  -- the last picture is the one that came last
  pub last_of_more : (pictures : List P) (next : P) → last_of (pictures ++ next ∷ []) ≡ Some next
  last_of_more pictures next =
      let n : length (pictures ++ next ∷ []) - 1 ≡ length pictures =
      omega (arith, length-append pictures (next ∷ [])) in
      subst (λ (place : ℕ). slice_get (pictures ++ next ∷ []) place ≡ Some next) (sym n)
      (get_last pictures next)

  -- a history with a last picture isn't empty
  pub some_are : (pictures : List P) (last : P) → last_of pictures ≡ Some last → 0 < length pictures
  some_are [] last e = absurd cc
  some_are (x ∷ xs) last e = omega arith

module _ {P O : Type 0} (number : P → ℕ) (of : P → O) where
  -- the empty list is a history
  pub none_published : IsPublication number of []
  none_published = record {
    rises = λ place first picture a b. absurd cc;
    same = λ place first picture a b. absurd cc;
  }

  -- a picture of a history with one more, beside the first one
  more_at : (pictures : List P) (next : P) → IsPublication number of pictures
      → MayFollow number of pictures next → (place : ℕ) (first picture : P)
      → first_of (pictures ++ next ∷ []) ≡ Some first
      → slice_get (pictures ++ next ∷ []) place ≡ Some picture
      → (number picture ≡ number first + place) × (of picture ≡ of first)
  more_at [] next h may zero first picture a b =
      let e : picture ≡ first = cc (a, b) in (ap number e ∙ omega arith, ap of e)
  more_at [] next h may (suc place) first picture a b = absurd cc
  more_at (x ∷ xs) next h may place first picture a b =
      ⊎_elim
      (λ (old : slice_get (x ∷ xs) place ≡ Some picture).
      (h.rises place first picture a old, h.same place first picture a old))
      (λ (new : (place ≡ length (x ∷ xs)) × (next ≡ picture)).
      let last = get_or (x ∷ xs) (length (x ∷ xs) - 1) x in
      let is_last : last_of (x ∷ xs) ≡ Some last =
      get_at (x ∷ xs) (length (x ∷ xs) - 1) x (omega arith) in
      let before = h.rises (length (x ∷ xs) - 1) first last a is_last in
      let after = may.rises last is_last in (
        ap number (sym new.1) ∙ omega (arith, before, after, new.0),
        ap of (sym new.1)
            ∙ may.same first a,
      ))
      (get_in_more (x ∷ xs) next place picture b)

  -- a history with a picture that may come next is a history
  pub publication_of_more : (pictures : List P) (next : P) → IsPublication number of pictures
      → MayFollow number of pictures next → IsPublication number of (pictures ++ next ∷ [])
  publication_of_more pictures next h may = record {
    rises = λ place first picture a b. (more_at pictures next h may place first picture a b).0;
    same = λ place first picture a b. (more_at pictures next h may place first picture a b).1;
  }

  -- no picture of a history's prefix is newer than the history's last one, and all are of the same
  as_seen : (pictures whole : List P) (last : P) → IsPrefix pictures whole
      → IsPublication number of whole → last_of whole ≡ Some last → (place : ℕ) (d : P)
      → place < length pictures → (number (get_or pictures place d) ≤ number last)
      × (of (get_or pictures place d) ≡ of last)
  as_seen pictures whole last p h e place d below =
      let seen = get_or pictures place d in
      let at : slice_get whole place ≡ Some seen =
      get_in_longer pictures whole place seen p (get_at pictures place d below) in
      let first = get_or whole 0 d in
      let le = prefix_length pictures whole p in
      let is_first : first_of whole ≡ Some first = get_at whole 0 d (omega (arith, le, below)) in
      let end = length whole - 1 in (
        omega (
          arith,
          h.rises place first seen is_first at,
          h.rises end first last is_first e,
          le,
          below,
        ),
        h.same place first seen is_first at ∙ sym (h.same end first last is_first e),
      )

  -- where a look answers, its picture is the last one of a history that begins with what was seen
  pub look_never_older : {A E : Type 0} (r : Result A E) (picture_of : A → P)
      (pictures whole : List P) → IfOk r (λ _. IsPrefix pictures whole)
      → IfOk r (λ a. last_of whole ≡ Some (picture_of a)) → IsPublication number of whole
      → IfOk r (λ a. All (λ seen. number seen ≤ number (picture_of a)) pictures)
  look_never_older (Ok a) picture_of pictures whole p e h =
      λ place d below. (as_seen pictures whole (picture_of a) p h e place d below).0
  look_never_older (Err stop) picture_of pictures whole p e h = tt

  -- where a look answers, all that was seen are pictures of the same as its picture
  pub look_of : {A E : Type 0} (r : Result A E) (picture_of : A → P) (pictures whole : List P)
      → IfOk r (λ _. IsPrefix pictures whole) → IfOk r (λ a. last_of whole ≡ Some (picture_of a))
      → IsPublication number of whole
      → IfOk r (λ a. All (λ seen. of seen ≡ of (picture_of a)) pictures)
  look_of (Ok a) picture_of pictures whole p e h =
      λ place d below. (as_seen pictures whole (picture_of a) p h e place d below).1
  look_of (Err stop) picture_of pictures whole p e h = tt
