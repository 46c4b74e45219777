-- Updates whose lines a watcher writes, look by look.
use Rattle.std.proofs.Common.{◌≡◌, ◌⊎◌, ◌≤◌, ◌<◌, ◌+◌, ◌-◌, Bool, true, false, ℕ, List, [], ◌∷◌, ◌++◌, Option, None, Some, IfSome, length, take, get_or, refl, sym, ap, ◌∙◌, subst, inl, inr, append-nil, arith}
use Rattle.logged_run.proofs.Prelude.{nat_tests, get_or_append_left, get_or_push, length_push, take_all, take_more, slice_get-get_or, last_of, last_of_more, AreSeen, is_news, newest_after, news, AreWatched}
use Rattle.std.specs.List.Sorted.{IsStrictlyIncreasing}

-- the last number, at its place
at_end : (xs : List ℕ) (x : ℕ) → last_of xs ≡ Some x → 0 < length xs
    → get_or xs (length xs - 1) 0 ≡ x
at_end xs x is some = cc (is, slice_get-get_or xs (length xs - 1) 0 (omega (arith, some)))

-- a list without a last number is empty
none_at_end : (xs : List ℕ) → last_of xs ≡ None → 0 < length xs → ⊥
none_at_end xs is some =
    absurd (cc (is, slice_get-get_or xs (length xs - 1) 0 (omega (arith, some))))

-- a number above the last one is above the end of the list
above_end : (xs : List ℕ) (newest : Option ℕ) (x : ℕ) → last_of xs ≡ newest
    → IfSome newest (λ y. y < x) → 0 < length xs → get_or xs (length xs - 1) 0 < x
above_end xs None x is above some = absurd (none_at_end xs is some)
above_end xs (Some y) x is above some = omega (arith, at_end xs y is some, above)

-- the place after this one is in the list, or comes next
next_place : (k n : ℕ) → k + 1 < n + 1 → (k + 1 < n) ⊎ (k + 1 ≡ n)
next_place k n h = grind arith

-- a list that rises still does with a greater number at its end
rising_more : (xs : List ℕ) (x : ℕ) → IsStrictlyIncreasing xs
    → (0 < length xs → get_or xs (length xs - 1) 0 < x) → IsStrictlyIncreasing (xs ++ x ∷ [])
rising_more xs x rising above k within =
    elim (next_place k (length xs) (omega (arith, within, length_push xs x))) [
      | inl before ↦
          let here = get_or_append_left xs (x ∷ []) 0 k (omega (arith, before)) in
          let there = get_or_append_left xs (x ∷ []) 0 (k + 1) before in
          omega (arith, here, there, rising k before)
      | inr last ↦
          let here = get_or_append_left xs (x ∷ []) 0 k (omega (arith, last)) in
          let there = get_or_push xs x 0 (k + 1) (sym last) in
          let place : length xs - 1 ≡ k = omega (arith, last) in
          omega (arith, here, there, ap (λ n. get_or xs n 0) place, above (omega (arith, last)))
    ]

-- what news is: newer than the newest, and not after the run's end
newer : (newest : Option ℕ) (last update : ℕ) → is_news newest last update ≡ true
    → IfSome newest (λ written. written < update)
newer None last update e = tt
newer (Some written) last update e = grind (arith, nat_tests)

-- news is of an update that the run comes to
in_run : (newest : Option ℕ) (last update : ℕ) → is_news newest last update ≡ true → update ≤ last
in_run None last update e = grind (arith, nat_tests)
in_run (Some written) last update e = grind (arith, nat_tests)

-- the run's last update is no news only where it is written
written : (newest : Option ℕ) (last : ℕ) → IfSome newest (λ update. update ≤ last)
    → is_news newest last last ≡ false → newest ≡ Some last
written None last within e = absurd (grind (arith, nat_tests))
written (Some update) last within e =
    let same : update ≡ last = grind (arith, nat_tests) in
    ap Some same

-- the updates before a last one
ends_with : (xs : List ℕ) (x : ℕ) → last_of xs ≡ Some x → (earlier : List ℕ)
    × (xs ≡ earlier ++ x ∷ [])
ends_with [] x is = absurd cc
ends_with (y ∷ ys) x is =
    let xs = y ∷ ys in
    let n = length xs - 1 in
    let all : length xs ≤ n + 1 = omega arith in (
      take n xs,
      sym (take_all (n + 1) xs all) ∙ take_more xs n 0 (omega arith)
          ∙ ap (λ z. take n xs ++ z ∷ []) (at_end xs x is (omega arith)),
    )

-- nothing is written before the first look
pub seen_nothing : (last : ℕ) → AreSeen 0 last None []
seen_nothing last = record {
  rising = λ k within. absurd (omega (arith, within));
  newest_is = refl;
  within = tt;
  few = omega arith;
}

-- one more update
seen_one : (looks last : ℕ) (newest : Option ℕ) (updates : List ℕ) (update : ℕ)
    → AreSeen looks last newest updates
    → is_news newest last update ≡ true
    → AreSeen (looks + 1) last (Some update) (updates ++ update ∷ [])
seen_one looks last newest updates update so is = record {
  rising = rising_more updates update so.rising
      (above_end updates newest update so.newest_is (newer newest last update is));
  newest_is = last_of_more updates update;
  within = in_run newest last update is;
  few = omega (arith, length_push updates update, so.few);
}

-- a look more, without news
seen_same : (looks last : ℕ) (newest : Option ℕ) (updates : List ℕ)
    → AreSeen looks last newest updates → AreSeen (looks + 1) last newest (updates ++ [])
seen_same looks last newest updates so =
    subst (AreSeen (looks + 1) last newest) (sym (append-nil updates)) (record {
      rising = so.rising;
      newest_is = so.newest_is;
      within = so.within;
      few = omega (arith, so.few);
    })

-- a look more, by whether it has news
seen_by : (test : Bool) (looks last : ℕ) (newest : Option ℕ) (updates : List ℕ) (update : ℕ)
    → AreSeen looks last newest updates
    → is_news newest last update ≡ test
    → AreSeen (looks + 1) last (newest_after newest last update)
    (updates ++ news newest last update)
seen_by true looks last newest updates update so is =
    rw is (seen_one looks last newest updates update so is)
seen_by false looks last newest updates update so is =
    rw is (seen_same looks last newest updates so)

-- a look more
pub seen_more : (looks last : ℕ) (newest : Option ℕ) (updates : List ℕ) (update : ℕ)
    → AreSeen looks last newest updates
    → AreSeen (looks + 1) last (newest_after newest last update)
    (updates ++ news newest last update)
seen_more looks last newest updates update so =
    seen_by (is_news newest last update) looks last newest updates update so refl

-- fewer looks have written it
pub seen_within : (looks more last : ℕ) (newest : Option ℕ) (updates : List ℕ)
    → AreSeen looks last newest updates → looks ≤ more → AreSeen more last newest updates
seen_within looks more last newest updates so le = record {
  rising = so.rising;
  newest_is = so.newest_is;
  within = so.within;
  few = omega (arith, so.few, le);
}

-- the updates with the run's last one, if it is news, are those of a watcher
watched_by : (test : Bool) (looks last : ℕ) (newest : Option ℕ) (updates : List ℕ)
    → AreSeen looks last newest updates
    → is_news newest last last ≡ test → AreWatched looks last (updates ++ news newest last last)
watched_by true looks last newest updates so is = rw is (record {
  rising = rising_more updates last so.rising
      (above_end updates newest last so.newest_is (newer newest last last is));
  ends = (updates, refl);
  few = omega (arith, length_push updates last, so.few);
})
watched_by false looks last newest updates so is =
    rw is (subst (AreWatched looks last) (sym (append-nil updates)) (record {
      rising = so.rising;
      ends = ends_with updates last (so.newest_is ∙ written newest last so.within is);
      few = omega (arith, so.few);
    }))

-- with the run's last update, where it is news, the updates end as they are to
pub watched : (looks last : ℕ) (newest : Option ℕ) (updates : List ℕ)
    → AreSeen looks last newest updates
    → AreWatched looks last (updates ++ news newest last last)
watched looks last newest updates so =
    watched_by (is_news newest last last) looks last newest updates so refl
