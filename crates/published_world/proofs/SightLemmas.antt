-- What was seen, and what the reader saw after that.
use Rattle.std.proofs.Common.{◌≡◌, ℕ, ◌<◌, ◌≤◌, List, length, take, Some, Result, Ok, Err, IfOk, ap, sym, subst, ◌∙◌, arith}
use Rattle.std.proofs.lemmas.List.{length-take, take_all}
use mathlib.Core.List.{IsPrefix}
use Rattle.published_world.specs.declared.shown.Shown.{Shown}
use Rattle.published_world.specs.PublicationHistory.{count_and_picture, IsPublication, last_of}
use Rattle.published_world.specs.Rule.{IsSeen, IsWholeSeen, Shows}
use Rattle.published_world.proofs.PrefixLemmas.{prefix_trans, prefix_length, take_is_prefix, take_of_longer}
use Rattle.published_world.proofs.PublicationLemmas.{some_are}

module _ {P O : Type 0} (number : P → ℕ) (of : P → O) where
  -- what was seen is not longer than what the reader has seen
  fits_in : (seen : List P) (last : Shown P) → IsSeen number of seen last → last.count ≤ length seen
  fits_in seen last h = omega (arith, h.length_is, length-take last.count seen)

  -- all that was seen was counted
  pub seen_whole : (seen : List P) (last : Shown P) → IsWholeSeen number of seen last
      → take last.count seen ≡ seen
  seen_whole seen last h = take_all last.count seen (omega (arith, h.length_is))

  -- where all that was seen is a history with this end, so is what was counted
  pub whole_is_seen : (seen : List P) (last : Shown P) → IsWholeSeen number of seen last
      → IsSeen number of seen last
  whole_is_seen seen last h =
      let e = sym (seen_whole seen last h) in record {
        length_is = subst (λ xs. length xs ≡ last.count) e h.length_is;
        last_is = subst (λ xs. last_of xs ≡ Some last.picture.value) e h.last_is;
        publication = subst (IsPublication number of) e h.publication;
      }

  -- the reader has seen more, and nothing of that was counted
  pub kept : (seen later : List P) (last : Shown P) → IsSeen number of seen last
      → IsPrefix seen later → take last.count later ≡ take last.count seen
  kept seen later last h p = take_of_longer last.count seen later p (fits_in seen last h)

  -- all that the reader has seen was counted
  pub grown_is_whole : (seen later : List P) (last shown : Shown P) → IsSeen number of seen last
      → IsPrefix seen later → Shows later shown → IsPublication number of later
      → IsWholeSeen number of later shown
  grown_is_whole seen later last shown h p shows publication =
      let some_of : 0 < shown.count =
      omega (
        arith,
        some_are (take last.count seen) last.picture.value h.last_is,
        h.length_is,
        fits_in seen last h,
        prefix_length seen later p,
        shows.length_is,
      ) in
      record {
        length_is = shows.length_is;
        last_is = shows.last_is some_of;
        publication = publication;
      }

  -- the pictures counted before are a prefix of those counted once all that was seen is
  pub grown : (seen later : List P) (last shown : Shown P) → IsPrefix seen later
      → length later ≡ shown.count → IsPrefix (take last.count seen) (take shown.count later)
  grown seen later last shown p e =
      let whole : take shown.count later ≡ later = take_all shown.count later (omega (arith, e)) in
      subst (IsPrefix (take last.count seen)) (sym whole)
      (prefix_trans (take last.count seen) seen later (take_is_prefix last.count seen) p)

  -- what has the same count and the same picture shows the same history
  same_shows : (log : List P) (x y : Shown P) → count_and_picture y ≡ count_and_picture x
      → Shows log x → Shows log y
  same_shows log x y e h = record {
    length_is = h.length_is ∙ sym (ap (λ t. t.0) e);
    last_is = λ some_of. h.last_is (subst (λ (n : ℕ). 0 < n) (ap (λ t. t.0) e) some_of)
        ∙ ap Some (sym (ap (λ t. t.1) e));
  }

  -- a copy of what was shown is the end of all that the reader has seen then
  pub read_shown : {E : Type 0} (r : Result (Shown P) E) (seen later : List P) (last x : Shown P)
      → IfOk r (λ copy. count_and_picture copy ≡ count_and_picture x) → IsSeen number of seen last
      → IsPrefix seen later → Shows later x → IsPublication number of later
      → IfOk r (λ shown. IsSeen number of later shown)
  read_shown (Ok shown) seen later last x e h p shows publication =
      whole_is_seen later shown
      (grown_is_whole seen later last shown h p (same_shows later x shown e shows) publication)
  read_shown (Err stop) seen later last x e h p shows publication = tt

  -- where a read answers, what was counted is a prefix of what is counted then
  pub read_later : {E : Type 0} (r : Result (Shown P) E) (seen later : List P) (last x : Shown P)
      → IfOk r (λ copy. count_and_picture copy ≡ count_and_picture x) → IsPrefix seen later
      → Shows later x
      → IfOk r (λ shown. IsPrefix (take last.count seen) (take shown.count later))
  read_later (Ok shown) seen later last x e p shows =
      grown seen later last shown p (same_shows later x shown e shows).length_is
  read_later (Err stop) seen later last x e p shows = tt
