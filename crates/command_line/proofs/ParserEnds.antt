-- What the parser makes of the words of a command is what they tell by its form.
use Rattle.std.proofs.Common.{◌≡◌, ◌∙◌, ◌<◌, refl, sym, subst, ap, List, [], ◌∷◌, length, drop, Option, Some, None, Result, MatchResult, option_and_then, String, map, string_bytes}
use Rattle.command_line.proofs.Prelude.{length-map, ok_or, Row, Text, App, matches_of, fault_of, Kinds, ErrorKind, app_by, told_in, IsReadableRow, NoMinus, IsRefusedBy, IsTold, Refuses, CommandRow, told_by_row, Refused, Memory, BadWords}
use Rattle.command_line.proofs.FormLaw.{form_fits, form_stops}

-- a refusal for a fault, where words with a fault tell nothing
refuses_fault : {T : Type 0} (told : Option T) (kinds : Kinds) (r : Refused) → IsRefusedBy kinds r
    → ((k : ErrorKind) (ks : Kinds) → kinds ≡ k ∷ ks → told ≡ None) → Refuses told r
refuses_fault told kinds Memory is none = tt
refuses_fault told [] BadWords is none = absurd is
refuses_fault told (k ∷ ks) BadWords is none = none k ks refl

-- the result is what is told, or bad words where nothing is told
told_or_bad : {T : Type 0} (told : Option T)
    → MatchResult (ok_or told BadWords) (λ t. told ≡ Some t) (Refuses told)
told_or_bad None = refl
told_or_bad (Some t) = refl

module _ {T : Type 0} {row : CommandRow T} (reads : IsReadableRow row) (no_minus : NoMinus) where
  -- words that the parser refuses
  pub stops : {A : Type 0} (texts : List (String A)) (a : App) (r : Refused) → 0 < length texts
      → a ≡ app_by row.name row.form row.texts
      → IsRefusedBy (fault_of a (map string_bytes texts)) r
      → Refuses (told_by_row row (drop 1 (map string_bytes texts))) r
  stops texts a r some is refused =
      let words : List Text = map string_bytes texts in
      let here : IsRefusedBy (fault_of (app_by row.name row.form row.texts) words) r =
      subst (λ (b : App). IsRefusedBy (fault_of b words) r) is refused in
      refuses_fault (told_by_row row (drop 1 words))
      (fault_of (app_by row.name row.form row.texts) words) r here
      (form_stops row.name row.form row.texts reads.distinct T row.take
      (reads.refuses no_minus) words (rw (length-map texts string_bytes) some))

  -- what is taken of the rows, where the parser finds no fault, is what the words tell the command
  fits : (words : List Text) (a : App) (rows : List Row) → 0 < length words
      → a ≡ app_by row.name row.form row.texts → fault_of a words ≡ [] → rows ≡ matches_of a words
      → option_and_then row.take (told_in row.form row.texts rows) ≡ told_by_row row (drop 1 words)
  fits words a rows some is free same =
      ap (λ found. option_and_then row.take (told_in row.form row.texts found))
      (same ∙ ap (λ b. matches_of b words) is)
      ∙ form_fits row.name row.form row.texts reads.distinct T row.take
      (reads.refuses no_minus) words some
      (ap (λ b. fault_of b words) (sym is) ∙ free)

  -- words that the parser takes
  pub ends : {A : Type 0} (texts : List (String A)) (a : App) (rows : List Row) (taken : Option T)
      (result : Result T Refused) → 0 < length texts → a ≡ app_by row.name row.form row.texts
      → fault_of a (map string_bytes texts) ≡ [] → rows ≡ matches_of a (map string_bytes texts)
      → taken ≡ option_and_then row.take (told_in row.form row.texts rows)
      → result ≡ ok_or taken BadWords → IsTold (told_by_row row) texts result
  ends texts a rows taken result some is free same from gives =
      let words : List Text = map string_bytes texts in
      let told : taken ≡ told_by_row row (drop 1 words) =
      from ∙ fits words a rows (rw (length-map texts string_bytes) some) is free same in
      rw (gives, told) (told_or_bad (told_by_row row (drop 1 words)))
