-- The loop over the pieces of a saved world.
use Rattle.std.proofs.Common.{◌≡◌, ℕ, ◌+◌, List, ◌∷◌, Option, Some, Ok, Err, Bor, refl}
use Rattle.checkpoint.proofs.Prelude.{saved_line_of, SavedLine, SavedPlace, told_saved_line, pieces_state, SavedStop, cut, IsFaultOf, Steps, saved_place_of}
use Rattle.checkpoint.specs.declared.place.ReadPlace as code
use Rattle.genome.proofs.ListLemmas.{some_then}
use Rattle.log_lines.specs.Words.{pieces_of}
use Rattle.saved_worlds.proofs.ReadsSavedLemmas.{piece_bad, piece_none, piece_on}
use Rattle.saved_worlds.specs.declared.saved_stop.SavedStop.TheVariants as stop
use Rattle.std.specs.Option.{option_copied}
use Rattle.std.specs.Prelude.{IsSome, option_and_then, None}

module _ (number : ℕ) (place : SavedPlace) (left piece : List ℕ) (others : Option (Bor (List ℕ)))
    (behind : Bor (List ℕ)) (split : cut left ≡ piece ∷ pieces_of 10 (option_copied others))
    (is : others ≡ Some behind) where
  -- what is left goes on from the next place
  pub left_on : (next : code.ReadPlace) → Steps (Ok next) number place (saved_line_of piece)
      → pieces_state number place (cut left)
      ≡ pieces_state (number + 1) (saved_place_of next) (cut behind.now)
  left_on next on =
      let to = saved_place_of next in
      let found = some_then (told_saved_line place) (saved_line_of piece) to on in
      rw (split, is) (piece_on number place piece behind.now found.0 found.1 to found.2)

  -- what is left has a faulty line
  pub left_faulty : (e : SavedStop) → Steps (Err e) number place (saved_line_of piece)
      → IsFaultOf e (pieces_state number place (cut left))
  left_faulty stop.Memory bad = tt
  left_faulty (stop.BadLine line) bad =
      rw (split, is, bad.0) (piece_none number place piece behind.now bad.1)
  left_faulty (stop.BadState line) bad =
      rw (split, is, bad.0) (no_place (saved_line_of piece) refl bad.1 bad.2) where
        no_place : (found : Option SavedLine) → saved_line_of piece ≡ found → IsSome found
            → option_and_then (told_saved_line place) found ≡ None
            → pieces_state number place (piece ∷ cut behind.now) ≡ Err (stop.BadState number)
        no_place None read some none = absurd cc
        no_place (Some line) read some none =
            piece_bad number place piece behind.now line read none
  left_faulty (stop.Unended line) bad = absurd bad
