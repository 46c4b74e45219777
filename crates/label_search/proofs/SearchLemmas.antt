-- The first place at which a template stands.
use Rattle.std.proofs.Common.{◌-◌, zero, suc, true, false, arith, ◌≡◌, sym, ap, refl, ℕ, ◌+◌, ◌<◌, ◌≤◌, List, Bool, cond, length, take, drop, Option, Some, None, subst, inl, inr, length-drop, length-take, get_or}
use Rattle.std.specs.Prelude.{◌&&◌}
use Rattle.label_search.proofs.Prelude.{eq-or-lt_of_le, drop_more, get_or-take, length-map, pointwise, Decides, find, range_with_len, not_from_Decides, Letter, NopA, same_letter, same_letters, Site, letters_of, OccursAt, occurs_at, first_match}
use Rattle.std.specs.Option.{MatchOption, IfSome}

-- the search among the places from one on, where this place passes the test or not
pub find-next : (test : ℕ → Bool) (place n : ℕ) (passes : Bool) → place < n → passes ≡ test place
    → find test (range_with_len place (n - place))
    ≡ cond passes (Some place) (find test (range_with_len (place + 1) (n - (place + 1))))
find-next test place n passes h is =
    let more : n - place ≡ suc (n - (place + 1)) = omega arith in rw (more, is) refl

-- the first of some places that pass a test: it has the fact, and none before it has
abbrev pub IsLeast : (P : ℕ → Type 0) → ℕ → ℕ → Option ℕ → Type 0
IsLeast P start end found =
    MatchOption found ((k : ℕ) → start ≤ k → k < end → ¬ P k)
    (λ first. P first × ((k : ℕ) → start ≤ k → k < first → ¬ P k))

-- what follows in each case
pub MatchOption-map : (found : Option ℕ) (P P' : Type 0) (Q Q' : ℕ → Type 0) → (P → P')
    → ((n : ℕ) → Q n → Q' n) → MatchOption found P Q → MatchOption found P' Q'
MatchOption-map None P P' Q Q' none some h = none h
MatchOption-map (Some n) P P' Q Q' none some h = some n h

-- it is the first place, or the first of the others
pub IsLeast-next : (P : ℕ → Type 0) (test : Bool) (start end : ℕ) → Decides test (P start)
    → (found : Option ℕ) → IsLeast P (start + 1) end found
    → IsLeast P start end (cond test (Some start) found)
IsLeast-next P true start end decides found others =
    (decides.0 refl, λ k low high _. absurd (omega arith))
IsLeast-next P false start end decides None others =
    λ k low high here. elim (eq-or-lt_of_le low) [
      | inl same ↦ not_from_Decides false decides refl (subst P (sym same) here)
      | inr above ↦ others k (omega arith) high here
    ]
IsLeast-next P false start end decides (Some first) others = (
  others.0,
  λ k low high here.
      elim (eq-or-lt_of_le low) [
        | inl same ↦ not_from_Decides false decides refl (subst P (sym same) here)
        | inr above ↦ others.1 k (omega arith) high here
      ],
)

-- what the first of some places is, where a fact holds just where the test passes
pub find-least : (test : ℕ → Bool) (P : ℕ → Type 0) → ((n : ℕ) → Decides (test n) (P n))
    → (n start end : ℕ) → end ≡ start + n → IsLeast P start end (find test (range_with_len start n))
find-least test P decides zero start end e = λ k low high _. absurd (omega arith)
find-least test P decides (suc n) start end e =
    IsLeast-next P (test start) start end (decides start) _
    (find-least test P decides n (start + 1) end (omega arith))

-- where the test of lists tells which are one list
module _ (one_list : (letters others : List Letter)
    → Decides (same_letters letters others) (letters ≡ others)) where
  -- a template that is not empty stands at a place exactly where the test says so
  pub occurs_at-Decides : (memory template : List Letter) → 0 < length template → (place : ℕ)
      → Decides (occurs_at memory template place) (OccursAt memory template place)
  occurs_at-Decides memory template some place =
      let rest = take (length template) (drop place memory) in
      let same = one_list template rest in
      let fits : template ≡ rest → place + length template ≤ length memory =
      λ e. omega (
        arith,
        ap length e,
        length-take (length template) (drop place memory),
        length-drop place memory,
      ) in
      (λ passes. (fits (same.0 passes), sym (same.0 passes)), λ stands. same.1 (sym stands.1))

  -- the first match is the least place at which the template stands
  pub first_match-least : (memory template : List Letter) → 0 < length template
      → MatchOption (first_match memory template) ((place : ℕ) → ¬ OccursAt memory template place)
      (λ first. OccursAt memory template first
      × ((place : ℕ) → place < first → ¬ OccursAt memory template place))
  first_match-least memory template some =
      MatchOption-map (first_match memory template) _ _ _ _
      (λ none place stands. none place (omega arith) (omega (arith, stands.0)) stands)
      (λ first least. (least.0, λ place before. least.1 place (omega arith) before))
      (find-least (occurs_at memory template) (OccursAt memory template)
      (occurs_at-Decides memory template some) (length memory) 0 (length memory) (omega arith))

  -- the first match stands wholly before the end
  pub first_match-before_end : (memory template : List Letter) → 0 < length template
      → IfSome (first_match memory template) (λ first. first + length template ≤ length memory)
  first_match-before_end memory template some =
      MatchOption-map (first_match memory template) _ _ _ _ (λ _. tt) (λ first least. least.0.0)
      (first_match-least memory template some)

-- a template and the letters under it, compared from a place on: here, and then the rests
pub compared : (what : List Letter) (sites : List Site) (at : ℕ) (letter : Letter) (same : Bool)
    → at < length what → at < length sites → letter ≡ get_or (letters_of sites) at NopA
    → same ≡ same_letter (get_or what at NopA) letter
    → pointwise same_letter (drop at what) (drop at (take (length what) (letters_of sites)))
    ≡ (same && pointwise same_letter (drop (at + 1) what)
    (drop (at + 1) (take (length what) (letters_of sites))))
compared what sites at letter same within inside read is =
    let letters = letters_of sites in
    let under = take (length what) letters in
    let long = length-map sites (λ (site : Site). site.letter) in
    let here : at < length under = omega (arith, length-take (length what) letters, long) in
    let there : get_or under at NopA ≡ get_or letters at NopA =
    get_or-take (length what) letters at NopA within in
    rw (drop_more what at NopA within, drop_more under at NopA here, there, is, read) refl
