-- Texts that grow by a word or an item.
use Rattle.std.proofs.Common.{◌≡◌, ℕ, ◌+◌, ◌<◌, cond, List, [], ◌∷◌, ◌++◌, map, length, get_or, take, refl, sym, ap, ◌∙◌, arith, append_assoc, append-nil, Some}
use Rattle.std.specs.Prelude.{◌==◌, slice_get}
use Rattle.log_lines.proofs.Prelude.{join_with_byte, take_more, map-append, length-take-le, slice_get_within, get_or_from_slice_get, nat_tests, Change, change_text, words_text}

-- words behind words
pub words_text-append : (a b : List (List ℕ)) → words_text (a ++ b) ≡ words_text a ++ words_text b
words_text-append [] b = refl
words_text-append (w ∷ a) b = ap (λ (l : List ℕ). (32 ∷ w) ++ l) (words_text-append a b)
    ∙ sym (append_assoc (32 ∷ w) (words_text a) (words_text b))

-- one word more
pub words_text_more : {A : Type 0} (f : A → List ℕ) (xs : List A) (k : ℕ) (d : A) → k < length xs
    → words_text (map f (take (k + 1) xs)) ≡ words_text (map f (take k xs))
    ++ 32 ∷ f (get_or xs k d)
words_text_more {A = A} f xs k d h =
    let x = get_or xs k d in
    let parts : map f (take (k + 1) xs) ≡ map f (take k xs) ++ f x ∷ [] =
    ap (λ (l : List A). map f l) (take_more xs k d h) ∙ map-append f (take k xs) (x ∷ []) in
    ap words_text parts ∙ words_text-append (map f (take k xs)) (f x ∷ [])
    ∙ ap (λ (l : List ℕ). words_text (map f (take k xs)) ++ 32 ∷ l) (append-nil (f x))

-- the items of a list, behind a space and then behind commas
abbrev pub items_text : List Change → List ℕ
items_text [] = []
items_text (c ∷ cs) = 32 ∷ join_with_byte 44 (map change_text (c ∷ cs))

-- one joined word more
join_more : (w : List ℕ) (ws : List (List ℕ)) (v : List ℕ)
    → join_with_byte 44 (w ∷ (ws ++ v ∷ [])) ≡ join_with_byte 44 (w ∷ ws) ++ 44 ∷ v
join_more w [] v = refl
join_more w (x ∷ ws) v = ap (λ (l : List ℕ). w ++ 44 ∷ l) (join_more x ws v)
    ∙ sym (append_assoc w (44 ∷ join_with_byte 44 (x ∷ ws)) (44 ∷ v))

-- one item more
items_on : (cs : List Change) (c : Change) (before : ℕ) → before ≡ cond (length cs == 0) 32 44
    → items_text (cs ++ c ∷ []) ≡ items_text cs ++ before ∷ change_text c
items_on [] c before is = rw is refl
items_on (a ∷ cs) c before is =
    let e : before ≡ 44 = grind (arith, nat_tests, is) in
    rw (e, map-append change_text cs (c ∷ []))
    (ap (λ (l : List ℕ). 32 ∷ l)
    (join_more (change_text a) (map change_text cs) (change_text c)))

-- one item more of a list
pub items_text_more : (cs : List Change) (k : ℕ) (c : Change) (before : ℕ) → slice_get cs k ≡ Some c
    → before ≡ cond (k == 0) 32 44
    → items_text (take (k + 1) cs) ≡ items_text (take k cs) ++ before ∷ change_text c
items_text_more cs k c before found is =
    let within : k < length cs = slice_get_within cs k c found in
    let read : get_or cs k c ≡ c = get_or_from_slice_get cs k c c found in
    let short : length (take k cs) ≡ k = length-take-le k cs (omega (arith, within)) in
    let at : before ≡ cond (length (take k cs) == 0) 32 44 = rw short is in
    let more : take (k + 1) cs ≡ take k cs ++ c ∷ [] =
    take_more cs k c within ∙ ap (λ (x : Change). take k cs ++ x ∷ []) read in
    ap (λ (l : List Change). items_text l) more ∙ items_on (take k cs) c before at
