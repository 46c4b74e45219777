-- What the writer does with the pending operations, of which the last one is what it publishes.
use Rattle.std.proofs.Common.{◌≡◌, ℕ, ◌+◌, List, [], ◌∷◌, ◌++◌, length, fold, Result, Ok, Err, is_ok, MatchResult, OnOk, OnErr, true, true≢false, sym, ap, ◌∙◌, subst, inl, arith, length-append}
use Rattle.std.proofs.lemmas.List.Sums.{fold-append}
use Rattle.crossbeam_utils.specs.Register.{TurnsAt}
use Rattle.published_world.specs.declared.shown.Shown.{Shown}
use Rattle.published_world.specs.declared.view.View.{View}
use Rattle.published_world.specs.PublicationHistory.{count_and_picture, IsPublication, MayFollow}
use Rattle.published_world.specs.Rule.{Appends, Keeps, MayWrite}
use Rattle.published_world.proofs.PublicationLemmas.{publication_of_more}
use Rattle.published_world.proofs.RuleLemmas.{appends}

module _ {P : Type 0} where
  -- what both copies hold once the operations are applied
  abbrev pub applied : List (Shown P) → Shown P → ℕ × P
  applied operations x = fold (λ _ operation. count_and_picture operation)
      (count_and_picture x) operations

  -- the last operation decides
  last_applied : (operations : List (Shown P)) (x operation : Shown P)
      → applied (operations ++ operation ∷ []) x ≡ count_and_picture operation
  last_applied operations x operation =
      fold-append (λ (_ : ℕ × P) (z : Shown P). count_and_picture z) (count_and_picture x)
      operations (operation ∷ [])

module _ {P O : Type 0} (number : P → ℕ) (of : P → O) (v : View P) (x : Shown P)
    (before : List (Shown P)) (next : Shown P) where
  -- the step of the writer keeps the rule
  pub append_turns : (by : ℕ) (y : Shown P) → MayWrite number of x v → next.count ≡ x.count + 1
      → MayFollow number of v.seen next.picture.value
      → count_and_picture y ≡ applied (before ++ next ∷ []) x
      → TurnsAt (Keeps number of) by v x y Appends
  append_turns by y writes more may e =
      let same = e ∙ last_applied before x next in
      appends number of by v x y writes.right (ap (λ t. t.0) same ∙ more)
      (subst (λ (p : P). MayFollow number of v.seen p) (sym (ap (λ t. t.1) same)) may)

  -- what the writer has seen after the step
  pub append_leaves : {A E : Type 0} (r : Result A E) (w : View P) (y : Shown P) (B C : Type 0)
      (operations : List (Shown P)) → operations ≡ before ++ next ∷ [] → MayWrite number of x v
      → next.count ≡ x.count + 1 → MayFollow number of v.seen next.picture.value
      → MatchResult r (λ _. (count_and_picture y ≡ applied operations x) × B) (λ _. (y ≡ x) × C)
      → MatchResult r (λ _. Appends v x y w) (λ _. w ≡ v)
      → MayWrite number of y w × OnOk r (w.seen ≡ v.seen ++ next.picture.value ∷ [])
      × OnErr r (w.seen ≡ v.seen)
  append_leaves (Ok a) w y B C operations pending writes more may values rule =
      let same = (values.0 ∙ ap (λ l. applied l x) pending) ∙ last_applied before x next in
      let seen : w.seen ≡ v.seen ++ next.picture.value ∷ [] = ap (λ (u : View P). u.seen) rule
      ∙ ap (λ (p : P). v.seen ++ p ∷ []) (ap (λ t. t.1) same) in
      let whole =
      publication_of_more number of v.seen next.picture.value writes.publication may in (
        record {
          right = inl (ap (λ (u : View P). u.writes) rule);
          length_is = omega (
            arith,
            ap length seen,
            length-append v.seen (next.picture.value ∷ []),
            writes.length_is,
            more,
            ap (λ t. t.0) same,
          );
          publication = subst (IsPublication number of) (sym seen) whole;
        },
        seen,
        tt,
      )
  append_leaves (Err e) w y B C operations pending writes more may values rule = (
    subst (λ (t : Shown P × View P). MayWrite number of t.0 t.1)
        (sym (λ i. (values.0 i, rule i))) writes,
    tt,
    ap (λ (u : View P). u.seen) rule,
  )

-- the claim on the Ok of an answer that is no error
pub at_ok : {A E B : Type 0} (r : Result A E) (C : E → Type 0) → is_ok r ≡ true
    → MatchResult r (λ _. B) C → B
at_ok (Ok a) C e h = h
at_ok (Err x) C e h = absurd (true≢false (sym e))
