-- The digits in front of a rest, and the word that they are or begin.
use Rattle.std.proofs.Common.{◌≡◌, ℕ, ◌<◌, ◌≤◌, ◌-◌, length, get_or, suc, ◌+◌, Bool, true, false, cond, List, [], ◌∷◌, ◌++◌, take, drop, length-drop, refl, sym, ap, subst, ◌∙◌, arith, inl, inr, Option, Some, None}
use Rattle.std.specs.Prelude.{◌&&◌, ◌==◌, not, is_some, option_map}
use Rattle.log_lines.proofs.Prelude.{is_ascii_digit, slice_split, onto_first, all_ascii_digits, bytes_eq, common_steps, cases_Bool, nat_tests, take_all, Line, LineForm, forms, digits_len, is_numeral, leading_digits, number_of, over_field, line_of, read_by, read_words, after_word, read_first, words_of}

-- the words of a text
abbrev cut : List ℕ → List (List ℕ)
cut bytes = slice_split (λ b. b == 32) bytes

-- what a byte is put before begins with it
onto_some : (b : ℕ) (parts : List (List ℕ)) → (word : List ℕ) × (words : List (List ℕ))
    × (onto_first b parts ≡ (b ∷ word) ∷ words)
onto_some b [] = ([], [], refl)
onto_some b (part ∷ parts) = (part, parts, refl)

-- a byte other than a space is put before the first word
cut_on : (b : ℕ) (bs : List ℕ) → (b == 32) ≡ false → cut (b ∷ bs) ≡ onto_first b (cut bs)
cut_on b bs other = rw other refl

-- a space begins a word
cut_here : (b : ℕ) (bs : List ℕ) → (b == 32) ≡ true → cut (b ∷ bs) ≡ [] ∷ cut bs
cut_here b bs is = rw is refl

-- ---- the word that the digits are, or begin

-- the digits are the first word, and these words are left; or the first word has another byte
abbrev Parts : List ℕ → Option (Option (List ℕ)) → Type 0
Parts bytes None = (word : List ℕ) × (words : List (List ℕ)) × (cut bytes ≡ word ∷ words)
    × (all_ascii_digits word ≡ false)
Parts bytes (Some left) = cut bytes ≡ leading_digits bytes ∷ words_of left

-- one and a number is its successor
one_more : (n : ℕ) → 1 + n ≡ suc n
one_more n = omega arith

-- a digit is put before the digits
pub digits_on : (b : ℕ) (bs : List ℕ) → is_ascii_digit b ≡ true
    → leading_digits (b ∷ bs) ≡ b ∷ leading_digits bs
digits_on b bs is = rw (is, one_more (digits_len bs)) refl

-- what follows the digits follows one digit more
behind_on : (b : ℕ) (bs : List ℕ) → is_ascii_digit b ≡ true
    → drop (digits_len (b ∷ bs)) (b ∷ bs) ≡ drop (digits_len bs) bs
behind_on b bs is = rw (is, one_more (digits_len bs)) refl

-- another byte has no digits
pub no_digits : (b : ℕ) (bs : List ℕ) → is_ascii_digit b ≡ false → leading_digits (b ∷ bs) ≡ []
no_digits b bs isnt = rw isnt refl

-- behind no digits stands the whole
behind_none : (b : ℕ) (bs : List ℕ) → is_ascii_digit b ≡ false
    → drop (digits_len (b ∷ bs)) (b ∷ bs) ≡ b ∷ bs
behind_none b bs isnt = rw isnt refl

-- the digits in front, and what follows them
pub digits_split : (bytes : List ℕ) → leading_digits bytes ++ drop (digits_len bytes) bytes ≡ bytes
digits_split [] = refl
digits_split (b ∷ bs) = elim (cases_Bool (is_ascii_digit b)) [
  | inl is ↦ rw (digits_on b bs is, behind_on b bs is) (ap (λ (l : List ℕ). b ∷ l) (digits_split bs))
  | inr isnt ↦ rw (no_digits b bs isnt, behind_none b bs isnt) refl
]

-- a conjunction with false
and_false : (v : Bool) → (v && false) ≡ false
and_false v = grind arith

-- a digit in front
parts_on : (b : ℕ) (bs : List ℕ) (left : Option (Option (List ℕ))) → is_ascii_digit b ≡ true
    → Parts bs left → Parts (b ∷ bs) left
parts_on b bs (Some left) is so =
    let other : (b == 32) ≡ false = grind (arith, nat_tests, is) in
    rw (cut_on b bs other, so, digits_on b bs is)
parts_on b bs None is so =
    let other : (b == 32) ≡ false = grind (arith, nat_tests, is) in (
      b ∷ so.0,
      so.1,
      cut_on b bs other ∙ ap (onto_first b) so.2,
      ap (λ (v : Bool). is_ascii_digit b && v) so.3 ∙ and_false (is_ascii_digit b),
    )

-- another byte in front
parts_end : (b : ℕ) (bs : List ℕ) → is_ascii_digit b ≡ false → Parts (b ∷ bs) (after_word (b ∷ bs))
parts_end b bs isnt = elim (cases_Bool (b == 32)) [
  | inl is ↦ rw (is, cut_here b bs is, no_digits b bs isnt)
  | inr other ↦
      let some = onto_some b (cut bs) in
      rw other (b ∷ some.0, some.1, cut_on b bs other ∙ some.2, rw isnt)
]

-- the digits are the first word, or it has another byte
parts : (bytes : List ℕ) → Parts bytes (after_word (drop (digits_len bytes) bytes))
parts [] = refl
parts (b ∷ bs) = elim (cases_Bool (is_ascii_digit b)) [
  | inl is ↦ rw (behind_on b bs is)
      (parts_on b bs (after_word (drop (digits_len bs) bs)) is (parts bs))
  | inr isnt ↦ rw (behind_none b bs isnt) (parts_end b bs isnt)
]

-- ---- the number that is the first word

-- what has another byte is no numeral
not_numeral : (word : List ℕ) → all_ascii_digits word ≡ false → is_numeral word ≡ false
not_numeral [] isnt = refl
not_numeral (d ∷ []) isnt = isnt
not_numeral (d ∷ e ∷ ds) isnt = rw isnt (and_false (not (d == 48)))

-- what has another byte is no number
pub not_number : (least greatest : ℕ) (word : List ℕ) → all_ascii_digits word ≡ false
    → number_of least greatest word ≡ None
unfolding number_of
not_number least greatest word isnt = rw (not_numeral word isnt) refl

-- what follows the digits, as the code cuts it
pub tail_is : (len : ℕ) (bytes : List ℕ) → len ≤ length bytes
    → take (length bytes - len) (drop len bytes) ≡ drop len bytes
tail_is len bytes within =
    take_all (length bytes - len) (drop len bytes) (omega (arith, length-drop len bytes))

-- the number in front and what is left behind it
abbrev with_left : ℕ → Option (Option (List ℕ)) → Option (ℕ × List (List ℕ))
with_left n left = option_map (λ o. (n, words_of o)) left

module _ (least greatest : ℕ) (bytes : List ℕ) where
  -- the number that a word spells
  abbrev read : List ℕ → Option ℕ
  read word = number_of least greatest word

  -- a first word with another byte is no number
  no_word : Parts bytes None → None ≡ read_first read (cut bytes)
  no_word so = rw (so.2, not_number least greatest so.0 so.3)

  -- a number in front
  read_parts : (n : ℕ) (left : Option (Option (List ℕ))) → Parts bytes left
      → Some n ≡ read (leading_digits bytes) → with_left n left ≡ read_first read (cut bytes)
  read_parts n None so is = no_word so
  read_parts n (Some left) so is = rw (so, ← is)

  -- no number in front
  no_parts : (left : Option (Option (List ℕ))) → Parts bytes left
      → None ≡ read (leading_digits bytes) → None ≡ read_first read (cut bytes)
  no_parts None so is = no_word so
  no_parts (Some left) so is = rw (so, ← is)

  -- the digits in front are the number that is the first word
  pub front_number : (n len : ℕ) (left : Option (Option (List ℕ)))
      → Some n ≡ read (leading_digits bytes) → len ≡ digits_len bytes
      → left ≡ after_word (drop len bytes) → with_left n left ≡ read_first read (cut bytes)
  front_number n len left is far end =
      let here : after_word (drop (digits_len bytes) bytes) ≡ left = rw (← far, ← end) in
      read_parts n left (subst (λ (o : Option (Option (List ℕ))). Parts bytes o) here (parts bytes))
      is

  -- digits that are no number are no first word
  pub front_none : None ≡ read (leading_digits bytes) → None ≡ read_first read (cut bytes)
  front_none is = no_parts (after_word (drop (digits_len bytes) bytes)) (parts bytes) is

-- ---- one byte in front

-- the byte is the first word, and these words are left; or the first word goes on
abbrev ByteParts : ℕ → List ℕ → Option (Option (List ℕ)) → Type 0
ByteParts b bs None = (next : ℕ) × (word : List ℕ) × (words : List (List ℕ))
    × (cut (b ∷ bs) ≡ (b ∷ next ∷ word) ∷ words)
ByteParts b bs (Some left) = cut (b ∷ bs) ≡ (b ∷ []) ∷ words_of left

-- the first byte is the first word, or it goes on
byte_parts : (b : ℕ) (bs : List ℕ) → (b == 32) ≡ false → ByteParts b bs (after_word bs)
byte_parts b [] other = cut_on b [] other
byte_parts b (c ∷ cs) other = elim (cases_Bool (c == 32)) [
  | inl is ↦ rw is (cut_on b (c ∷ cs) other ∙ ap (onto_first b) (cut_here c cs is))
  | inr isnt ↦
      let some = onto_some c (cut cs) in
      let goes_on = cut_on b (c ∷ cs) other ∙ ap (onto_first b) (cut_on c cs isnt ∙ some.2) in
      rw isnt (c, some.0, some.1, goes_on)
]

-- nobody stood there
abbrev dashed : Option (Option (List ℕ)) → Option (Option ℕ × List (List ℕ))
dashed left =
    option_map (λ o. let pair : Option ℕ × List (List ℕ) = (None, words_of o) in pair) left

-- a dash in front
dash_part : (bs : List ℕ) (left : Option (Option (List ℕ))) → ByteParts 45 bs left
    → dashed left ≡ read_first over_field.read (cut (45 ∷ bs))
dash_part bs (Some left) so = rw so
dash_part bs None so =
    rw (so.3, not_number 0 18446744073709551615 (45 ∷ so.0 ∷ so.1) refl)

-- a dash that is the first word
pub dash_first : (bytes : List ℕ) (left : Option (Option (List ℕ))) → 1 ≤ length bytes
    → get_or bytes 0 0 ≡ 45 → left ≡ after_word (take (length bytes - 1) (drop 1 bytes))
    → dashed left ≡ read_first over_field.read (cut bytes)
dash_first [] left some is end = absurd (omega (arith, some))
dash_first (b ∷ bs) left some is end =
    let here : left ≡ after_word bs = end ∙ ap after_word (tail_is 1 (b ∷ bs) (omega arith)) in
    dash_part bs left (subst (λ (o : Option (Option (List ℕ))). ByteParts 45 bs o) (sym here)
    (byte_parts 45 bs refl))
    ∙ ap (λ (c : ℕ). read_first over_field.read (cut (c ∷ bs))) (sym is)

-- no byte is no number
empty_word : number_of 0 18446744073709551615 [] ≡ None
unfolding number_of
empty_word = refl

-- a text without bytes
pub no_first : (bytes : List ℕ) → length bytes < 1 → None ≡ read_first over_field.read (cut bytes)
no_first [] short = ap (option_map (λ a. (a, []))) (ap (option_map Some) (sym empty_word))
no_first (b ∷ bs) short = absurd (omega (arith, short))

-- ---- the mark of a line

-- each form of a table has at least a word behind its mark
abbrev need_words : List LineForm → Bool
need_words [] = true
need_words (form ∷ others) = cond (is_some (form.row.read [])) false (need_words others)

-- a form that needs a word, or the forms behind it, give no line without words
none_given : {A : Type 0} (make : A → Line) (found : Option A) (here others : Bool)
    (rest : Option Line) → cond (is_some found) false others ≡ true
    → (others ≡ true → rest ≡ None) → cond here (option_map make found) rest ≡ None
none_given make None here others rest need behind = grind (arith, common_steps, behind need)
none_given make (Some a) here others rest need behind = absurd cc

-- a mark alone is no line
bare_mark : (table : List LineForm) → need_words table ≡ true → (mark : List ℕ)
    → read_by table mark [] ≡ None
bare_mark [] need mark = refl
bare_mark (form ∷ others) need mark =
    none_given form.line (form.row.read []) (bytes_eq mark (form.mark ∷ [])) (need_words others) _
    need (λ rest. bare_mark others rest mark)

-- where a test fails, the other side is chosen
cond_skip : (v : Bool) (x o : Option Line) → o ≡ None → cond (v && false) x o ≡ None
cond_skip v x o is = grind (arith, common_steps)

-- a mark of two bytes is that of no form
long_mark : (table : List LineForm) (b c : ℕ) (word : List ℕ) (words : List (List ℕ))
    → read_by table (b ∷ c ∷ word) words ≡ None
long_mark [] b c word words = refl
long_mark (form ∷ others) b c word words =
    cond_skip (b == form.mark) _ _ (long_mark others b c word words)

-- a text of fewer than two bytes
pub short_line : (text : List ℕ) → length text < 2 → None ≡ line_of text
unfolding line_of
short_line [] short = refl
short_line (b ∷ []) short = elim (cases_Bool (b == 32)) [
  | inl is ↦ ap read_words (sym (cut_here b [] is))
  | inr isnt ↦ sym (ap read_words (cut_on b [] isnt) ∙ bare_mark forms refl (b ∷ []))
]
short_line (b ∷ c ∷ rest) short = absurd (omega (arith, short))

-- a mark, a space and the words
pub marked : (text : List ℕ) → 2 ≤ length text → get_or text 1 0 ≡ 32 → (get_or text 0 0 ≡ 32 → ⊥)
    → read_by forms (get_or text 0 0 ∷ []) (cut (take (length text - 2) (drop 2 text)))
    ≡ line_of text
unfolding line_of
marked [] some is apart = absurd (omega (arith, some))
marked (b ∷ []) some is apart = absurd (omega (arith, some))
marked (b ∷ c ∷ rest) some is apart =
    let other : (b == 32) ≡ false = grind (arith, nat_tests, apart) in
    let part : (c == 32) ≡ true = grind (arith, nat_tests, is) in
    ap (λ (l : List ℕ). read_by forms (b ∷ []) (cut l)) (tail_is 2 (b ∷ c ∷ rest) (omega arith))
    ∙ ap read_words (sym (cut_on b (c ∷ rest) other ∙ ap (onto_first b) (cut_here c rest part)))

-- a space in front
pub blank_mark : (text : List ℕ) → 2 ≤ length text → get_or text 0 0 ≡ 32 → None ≡ line_of text
unfolding line_of
blank_mark [] some is = absurd (omega (arith, some))
blank_mark (b ∷ rest) some is =
    let blank : (b == 32) ≡ true = grind (arith, nat_tests, is) in
    ap read_words (sym (cut_here b rest blank))

-- a mark of two bytes
pub long_marked : (text : List ℕ) → 2 ≤ length text → (get_or text 1 0 ≡ 32 → ⊥)
    → None ≡ line_of text
unfolding line_of
long_marked [] some apart = absurd (omega (arith, some))
long_marked (b ∷ []) some apart = absurd (omega (arith, some))
long_marked (b ∷ c ∷ rest) some apart =
    let isnt : (c == 32) ≡ false = grind (arith, nat_tests, apart) in
    elim (cases_Bool (b == 32)) [
      | inl is ↦ ap read_words (sym (cut_here b (c ∷ rest) is))
      | inr other ↦
          let some = onto_some c (cut rest) in
          sym (ap read_words (cut_on b (c ∷ rest) other
          ∙ ap (onto_first b) (cut_on c rest isnt ∙ some.2)) ∙ long_mark forms b c some.0 some.1)
    ]
