-- What a word looks like to the parser.
use Rattle.std.proofs.Common.{◌≡◌, refl, inl, inr, ℕ, ◌==◌, true, false, [], ◌∷◌, Option, Some, None}
use Rattle.std.specs.Prelude.{slice_get}
use Rattle.command_line.proofs.Prelude.{bytes_eq, chars, cases_Bool, long_of, short_of, name_and_value, Text, begins_dashed}

-- a word: `--`, one with a long or a short name, one torn after `-`, `-` alone, or one without `-`
pub data View (word : Text) : Type 0 where
  ending : bytes_eq word (45 ∷ 45 ∷ []) ≡ true → begins_dashed word ≡ true → View word
  long : (name : Text) (v : Option Text) → bytes_eq word (45 ∷ 45 ∷ []) ≡ false
      → long_of word ≡ Some (name, v) → begins_dashed word ≡ true → View word
  short : (y : ℕ) (ys : Text) (c : ℕ) → bytes_eq word (45 ∷ 45 ∷ []) ≡ false → long_of word ≡ None
      → short_of word ≡ Some (y ∷ ys) → slice_get (chars (y ∷ ys)) 0 ≡ Some c
      → begins_dashed word ≡ true → View word
  torn : (y : ℕ) (ys : Text) → bytes_eq word (45 ∷ 45 ∷ []) ≡ false → long_of word ≡ None
      → short_of word ≡ Some (y ∷ ys) → slice_get (chars (y ∷ ys)) 0 ≡ None
      → begins_dashed word ≡ true → View word
  dash : bytes_eq word (45 ∷ 45 ∷ []) ≡ false → long_of word ≡ None → short_of word ≡ None
      → begins_dashed word ≡ true → View word
  clean : bytes_eq word (45 ∷ 45 ∷ []) ≡ false → long_of word ≡ None → short_of word ≡ None
      → begins_dashed word ≡ false → View word

-- a word that begins with `--` is `--` or has a long name
view_long : (x y : ℕ) (zs : Text) → (x == 45) ≡ true → (y == 45) ≡ true → View (x ∷ y ∷ zs)
view_long x y [] a b = ending (rw (a, b) refl) a
view_long x y (z ∷ zs) a b =
    long (name_and_value (z ∷ zs)).0 (name_and_value (z ∷ zs)).1 (rw (a, b) refl) (rw (a, b) refl) a

-- a word that begins with just one `-` and goes on has a short name, or is torn
view_short : (x y : ℕ) (ys : Text) (found : Option ℕ) → slice_get (chars (y ∷ ys)) 0 ≡ found
    → (x == 45) ≡ true → (y == 45) ≡ false → View (x ∷ y ∷ ys)
view_short x y ys (Some c) is a b =
    short y ys c (rw (a, b) refl) (rw (a, b) refl) (rw (a, b) refl) is a
view_short x y ys None is a b = torn y ys (rw (a, b) refl) (rw (a, b) refl) (rw (a, b) refl) is a

-- what a word is that begins with `-`
view_dash : (x : ℕ) (ys : Text) → (x == 45) ≡ true → View (x ∷ ys)
view_dash x [] a = dash (rw a refl) (rw a refl) (rw a refl) a
view_dash x (y ∷ ys) a = elim (cases_Bool (y == 45)) [
  | inl b ↦ view_long x y ys a b
  | inr b ↦ view_short x y ys (slice_get (chars (y ∷ ys)) 0) refl a b
]

-- what any word is
pub view : (word : Text) → View word
view [] = clean refl refl refl refl
view (x ∷ xs) = elim (cases_Bool (x == 45)) [
  | inl a ↦ view_dash x xs a
  | inr a ↦ clean (rw a refl) (rw a refl) (rw a refl) a
]
