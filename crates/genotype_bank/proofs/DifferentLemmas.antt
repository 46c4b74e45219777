-- The different ones of some genomes, as they come one after another.
use Rattle.std.proofs.Common.{◌≡◌, ◌≢◌, ◌⊎◌, refl, sym, ◌∙◌, ap, subst, inl, inr, true≢false, arith, ℕ, Bool, true, false, cond, not, List, [], ◌∷◌, ◌++◌, map, Contains, Option, append-nil, append_assoc, Some, slice_get, length, length-append, ◌+◌}
use Rattle.std.specs.Prelude.{◌↔◌, AllPairs, nat_lt}
use Rattle.genotype_bank.proofs.Prelude.{cases_Bool, lt-ltb, le-ltb, dite, dec_lt, filter, list_any, cons_option, Decides, same_from_decides, common_steps, slice_get_read, slice_get_within, get_or_from_slice_get, filter-append, filter_map-append, Contains-append_left, Contains-get_or, Contains-push, Contains-push_cases, IsPermutation-sym, IsPermutation, IsPrefix, Letter, same_letters, Entry, Call, different_of, HasEachOnce, genomes_of, genotypes_of, interned_genome, with_call, with_genome, NumbersAgree}
use Rattle.std.specs.Cmp.{IsEquivalence}
use Rattle.std.proofs.lemmas.List.{get_or_append_left, map_push}
use Rattle.std.proofs.lemmas.Map.Views.{Contains-from_any, list_any-from_Contains}
use Rattle.std.proofs.lemmas.List.Quantifiers.{all_pairs_push}
use Rattle.genotype_bank.specs.declared.view.Call.TheVariants.{Interned, Refused}
use Rattle.genotype_bank.proofs.HistoryLemmas.{IsPrefix-trans}
use Rattle.genotype_bank.proofs.MemberLemmas.{Contains-filter_map_permuted}

-- the letters of a genome
abbrev Letters : Type 0
Letters = List Letter

-- the test of two lists of letters tells which are one list
abbrev pub OneList : Type 0
OneList = (one other : List Letter) → Decides (same_letters one other) (one ≡ other)

-- a test of what is seen of the members
list_any-map : {A B : Type 0} (eq : A → Bool) (same : B → Bool) (see : A → B)
    → ((a : A) → eq a ≡ same (see a)) → (xs : List A) → list_any eq xs ≡ list_any same (map see xs)
list_any-map eq same see alike [] = refl
list_any-map eq same see alike (x ∷ xs) = rw (alike x, list_any-map eq same see alike xs)

-- what is seen of the keys of a set once one is inserted
pub map-insert_key : {A B : Type 0} (eq : A → A → Bool) (same : B → B → Bool) (see : A → B)
    → ((a b : A) → eq a b ≡ same (see a) (see b)) → (keys : List A) (key : A)
    → map see (cond (list_any (eq key) keys) keys (keys ++ key ∷ []))
    ≡ cond (list_any (same (see key)) (map see keys)) (map see keys) (map see keys ++ see key ∷ [])
map-insert_key eq same see alike keys key =
    grind (
      arith,
      common_steps,
      list_any-map (eq key) (same (see key)) see (alike key) keys,
      map_push see keys key,
    )

-- what has a place in a prefix has the same place in the whole
pub slice_get-begins : {A : Type 0} (xs ys : List A) (i : ℕ) (x : A) → IsPrefix xs ys
    → slice_get xs i ≡ Some x → slice_get ys i ≡ Some x
slice_get-begins xs ys i x p e =
    let low = slice_get_within xs i x e in
    rw (← p.1) (slice_get_read (xs ++ p.0) _ i x refl (omega (arith, low, length-append xs p.0))
    (sym (get_or_append_left xs p.0 x i low ∙ get_or_from_slice_get xs i x x e)))

-- genotypes with one genome more begin with these genotypes
pub with_genome-begins : (genotypes : List Letters) (genome : Letters)
    → IsPrefix genotypes (with_genome genotypes genome)
with_genome-begins genotypes genome =
    elim (cases_Bool (list_any (same_letters genome) genotypes)) [
      | inl known ↦ rw known ([], append-nil genotypes)
      | inr new ↦ rw new (genome ∷ [], refl)
    ]

module _ (one_list : OneList) where
  -- the members that this one is not
  abbrev others_of : Letters → List Letters → List Letters
  others_of x xs = filter (λ y. not (same_letters x y)) xs

  -- the test of two lists of letters says the same in either order
  same-comm : (x y : Letters) → same_letters x y ≡ same_letters y x
  same-comm x y =
      same_from_decides {P = x ≡ y} (same_letters x y) (same_letters y x) (one_list x y)
      (λ e. sym ((one_list y x).0 e), λ e. (one_list y x).1 (sym e))

  -- who differs from a member is among the others where it is among all
  list_any-others_of : (x y : Letters) → same_letters x y ≡ false → (zs : List Letters)
      → list_any (same_letters x) (others_of y zs) ≡ list_any (same_letters x) zs
  list_any-others_of x y differ [] = refl
  list_any-others_of x y differ (z ∷ zs) =
      grind (arith, common_steps, list_any-others_of x y differ zs, (one_list y z).0)

  -- the different ones of some genomes with one more, which may be one of them
  different_of_push : (xs : List Letters) (x : Letters)
      → different_of (xs ++ x ∷ []) ≡ with_genome (different_of xs) x
  different_of_push [] x = refl
  different_of_push (y ∷ ys) x =
      let zs = different_of ys in
      let behind = filter-append (λ z. not (same_letters y z)) zs (x ∷ []) in
      let none = append-nil (others_of y zs) in
      let same = same-comm y x in
      rw (different_of_push ys x)
      (grind (arith, common_steps, behind, same, none, list_any-others_of x y))

  -- the genotypes of a history with one more call
  pub genotypes_of_push : (history : List Entry) (last : Entry)
      → genotypes_of (history ++ last ∷ []) ≡ with_call (genotypes_of history) last.call
  genotypes_of_push history last = rw
      (filter_map-append (λ (one : Entry). interned_genome one.call) history (last ∷ []))
      (by last.call)
    where
      by : (call : Call) → different_of
          (genomes_of history ++ cons_option (interned_genome call) [])
          ≡ with_call (genotypes_of history) call
      by (Interned genome) = different_of_push (genomes_of history) genome
      by Refused = rw (append-nil (genomes_of history))

  -- the different ones of some genomes come first where more genomes come behind
  different_of-longer : (xs ys : List Letters)
      → IsPrefix (different_of xs) (different_of (xs ++ ys))
  different_of-longer xs [] = ([], simp append-nil)
  different_of-longer xs (y ∷ ys) = rw (← append_assoc xs (y ∷ []) ys)
      (IsPrefix-trans (different_of xs) (different_of (xs ++ y ∷ [])) _
      (rw (different_of_push xs y) (with_genome-begins (different_of xs) y))
      (different_of-longer (xs ++ y ∷ []) ys))

  -- the different ones of a front of some genomes come first
  pub different_of-begins : (first genomes : List Letters) → IsPrefix first genomes
      → IsPrefix (different_of first) (different_of genomes)
  different_of-begins first genomes p = rw (← p.1) (different_of-longer first p.0)

  -- numbers stay as a history goes on
  pub genotypes_of-begins : (early history : List Entry) → IsPrefix early history
      → IsPrefix (genotypes_of early) (genotypes_of history)
  genotypes_of-begins early history p =
      different_of-begins (genomes_of early) (genomes_of history) (
        genomes_of p.0,
        rw (← filter_map-append (λ (one : Entry). interned_genome one.call) early p.0, p.1),
      )

  -- the test of two lists of letters is an equivalence
  pub same_letters-equivalence : IsEquivalence same_letters
  same_letters-equivalence = record {
    refl = λ x. (one_list x x).1 refl;
    symm = same-comm;
    congr = λ x y z e. ap (λ w. same_letters w z) ((one_list x y).0 e);
  }

  -- no two are equal
  abbrev AreApart : List Letters → Type 0
  AreApart xs = AllPairs (λ one other. one ≢ other) xs

  -- genotypes of which no two are equal have no two equal with one genome more
  AreApart-with_genome : (known : List Letters) (new : Letters) → AreApart known
      → AreApart (with_genome known new)
  AreApart-with_genome known new apart = elim (cases_Bool (list_any (same_letters new) known)) [
    | inl in_it ↦ rw in_it apart
    | inr out ↦ rw out (all_pairs_push (λ one other. one ≢ other) known new apart (λ k d l is.
        true≢false (sym (list_any-from_Contains same_letters-equivalence new known
        (subst (Contains known) is (Contains-get_or known k d l))) ∙ out)))
  ]

  -- the different ones of some genomes are apart still where more genomes come behind
  AreApart-longer : (xs ys : List Letters) → AreApart (different_of xs)
      → AreApart (different_of (xs ++ ys))
  AreApart-longer xs [] apart = rw (append-nil xs) apart
  AreApart-longer xs (y ∷ ys) apart = rw (← append_assoc xs (y ∷ []) ys)
      (AreApart-longer (xs ++ y ∷ []) ys
      (rw (different_of_push xs y) (AreApart-with_genome (different_of xs) y apart)))

  -- no two of the different ones of some genomes are equal
  AreApart-different_of : (xs : List Letters) → AreApart (different_of xs)
  AreApart-different_of xs = AreApart-longer [] xs (λ i j d below within. absurd (omega arith))

  -- a genome is among the different ones of some where it is among these
  list_any-different_of : (x : Letters) (ys : List Letters)
      → list_any (same_letters x) (different_of ys) ≡ list_any (same_letters x) ys
  list_any-different_of x [] = refl
  list_any-different_of x (y ∷ ys) =
      grind (arith, common_steps, list_any-others_of x y, list_any-different_of x ys)

  -- a member of one list is a member of another, if the test finds it in both or in neither
  Contains-by : (xs ys : List Letters) (x : Letters)
      → list_any (same_letters x) xs ≡ list_any (same_letters x) ys → Contains xs x → Contains ys x
  Contains-by xs ys x e h =
      Contains-from_any (λ a b same. (one_list a b).0 same) x ys
      (sym e ∙ list_any-from_Contains same_letters-equivalence x xs h)

  -- the different ones of some genomes are their members, each once
  pub HasEachOnce-different_of : (genomes : List Letters)
      → HasEachOnce (different_of genomes) genomes
  HasEachOnce-different_of genomes = record {
    members = λ genome. (
      Contains-by (different_of genomes) genomes genome (list_any-different_of genome genomes),
      Contains-by genomes (different_of genomes) genome
          (sym (list_any-different_of genome genomes)),
    );
    once = AreApart-different_of genomes;
  }

  -- what is known or new is among what is known with the new one
  Contains-with_genome : (known : List Letters) (new x : Letters) → Contains known x ⊎ (new ≡ x)
      → Contains (with_genome known new) x
  Contains-with_genome known new x h = elim (cases_Bool (list_any (same_letters new) known)) [
    | inl in_it ↦ rw in_it (elim h [
      | inl k ↦ k
      | inr is ↦ subst (Contains known) is
          (Contains-from_any (λ a b same. (one_list a b).0 same) new known in_it)
    ])
    | inr out ↦ rw out (elim h [
      | inl k ↦ Contains-append_left known (new ∷ []) x k
      | inr is ↦ subst (Contains (known ++ new ∷ [])) is (Contains-push known new)
    ])
  ]

  -- what is among what is known with the new one is known or new
  Contains-with_genome_cases : (known : List Letters) (new x : Letters)
      → Contains (with_genome known new) x → Contains known x ⊎ (new ≡ x)
  Contains-with_genome_cases known new x h =
      elim (cases_Bool (list_any (same_letters new) known)) [
        | inl in_it ↦ inl (rw in_it at h)
        | inr out ↦ Contains-push_cases known new x (rw out at h)
      ]

  -- one genome more, which may be known
  pub HasEachOnce-with_genome : (genotypes genomes : List Letters) (new : Letters)
      → HasEachOnce genotypes genomes
      → HasEachOnce (with_genome genotypes new) (genomes ++ new ∷ [])
  HasEachOnce-with_genome genotypes genomes new each = record {
    members = λ x. (
      (λ h. elim (Contains-with_genome_cases genotypes new x h) [
        | inl k ↦ Contains-append_left genomes (new ∷ []) x ((each.members x).0 k)
        | inr is ↦ subst (Contains (genomes ++ new ∷ [])) is (Contains-push genomes new)
      ]),
      (λ h. Contains-with_genome genotypes new x (elim (Contains-push_cases genomes new x h) [
        | inl k ↦ inl ((each.members x).1 k)
        | inr is ↦ inr is
      ])),
    );
    once = AreApart-with_genome genotypes new each.once;
  }

  -- the genotypes of a history are the genomes that its calls interned, in whatever order these are
  -- told
  pub HasEachOnce-genotypes_of : (history calls : List Entry) → IsPermutation history calls
      → HasEachOnce (genotypes_of history) (genomes_of calls)
  HasEachOnce-genotypes_of history calls same =
      let each = HasEachOnce-different_of (genomes_of history) in
      let genome_in : Entry → Option Letters = λ one. interned_genome one.call in record {
        members = λ x. (
          (λ (h : Contains (genotypes_of history) x). Contains-filter_map_permuted genome_in history
              calls x same ((each.members x).0 h)),
          (λ (h : Contains (genomes_of calls) x).
              (each.members x).1 (Contains-filter_map_permuted genome_in calls history x
              (IsPermutation-sym history calls same) h)),
        );
        once = each.once;
      }

  -- how many numbers were given, from the number of the last genome
  pub length-with_genome : (known : List Letters) (new : Letters) (number : ℕ)
      → slice_get (with_genome known new) number ≡ Some new
      → length (with_genome known new) ≡ cond (nat_lt number (length known)) (length known)
      (number + 1)
  length-with_genome known new number = by (list_any (same_letters new) known) refl
    where
      by : (b : Bool) → list_any (same_letters new) known ≡ b
          → slice_get (cond b known (known ++ new ∷ [])) number ≡ Some new
          → length (cond b known (known ++ new ∷ []))
          ≡ cond (nat_lt number (length known)) (length known) (number + 1)
      by true e at = rw (lt-ltb number (length known) (slice_get_within known number new at))
      by false e at = dite (dec_lt number (length known))
          (λ lt. absurd (true≢false
          (sym (list_any-from_Contains same_letters-equivalence new known
          (subst (Contains known) (sym (get_or_append_left known (new ∷ []) new number lt)
          ∙ get_or_from_slice_get (known ++ new ∷ []) number new new at)
          (Contains-get_or known number new lt))) ∙ e)))
          (λ ge. rw (le-ltb number (length known) (omega arith)) (let w =
          slice_get_within (known ++ new ∷ []) number new at in omega (arith, length-append known (new ∷ []))))

  -- where no two genomes are equal, each has one place
  one_place : (xs : List Letters) → AreApart xs → (i j : ℕ) (x : Letters) → slice_get xs i ≡ Some x
      → slice_get xs j ≡ Some x → i ≡ j
  one_place xs apart i j x a b =
      let e = get_or_from_slice_get xs i x x a ∙ sym (get_or_from_slice_get xs j x x b) in
      dite (dec_lt i j) (λ lt. absurd (apart i j x lt (slice_get_within xs j x b) e))
      (λ ge. dite (dec_lt j i)
      (λ lt. absurd (apart j i x lt (slice_get_within xs i x a) (sym e))) (λ le. omega arith))

  -- in a list that has each genome once, two places are equal exactly where the genomes are
  pub one_number : (bank genomes : List Letters) (number other : ℕ) (genome twin : Letters)
      → HasEachOnce bank genomes → slice_get bank number ≡ Some genome
      → slice_get bank other ≡ Some twin → (number ≡ other) ↔ (genome ≡ twin)
  one_number bank genomes number other genome twin has a b = (
    (λ (is : number ≡ other). cc),
    (λ (is : genome ≡ twin). one_place bank has.once number other genome a (cc)),
  )

  -- two prefixes of one history number genomes alike
  pub numbers_agree : NumbersAgree
  numbers_agree early late history number other genome twin p q a b =
      one_number (genotypes_of history) (genomes_of history) number other genome twin
      (HasEachOnce-different_of (genomes_of history))
      (slice_get-begins (genotypes_of early) (genotypes_of history) number genome
      (genotypes_of-begins early history p) a)
      (slice_get-begins (genotypes_of late) (genotypes_of history) other twin
      (genotypes_of-begins late history q) b)
