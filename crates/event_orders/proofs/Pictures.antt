-- The pictures that are published are those of their updates.
use Rattle.std.proofs.Common.{◌≡◌, ◌-◌, ℕ, zero, suc, ◌<◌, List, [], ◌∷◌, ◌++◌, length, get_or, refl, sym, ap, ◌∙◌, inl, inr, arith, length-append}
use Rattle.event_orders.proofs.Prelude.{slice_get-get_or, ConfigValues, PictureValue, picture_of, State, IsLawful, ShowsEachUpdate, Publish, get_pushed}

-- what holds of the pictures
pub record AreShown (config : ConfigValues) (pictures : List PictureValue) : Type 0 where
  pub some : 0 < length pictures
  pub each : ShowsEachUpdate config pictures

module _ (config : ConfigValues) where
  -- the picture of an update shows its number
  pub picture_update : (n : ℕ) → (picture_of config n).update ≡ n
  unfolding picture_of
  picture_update n = refl

  -- what holds of the pictures holds of that of update 0 alone
  pub first_shown : AreShown config (picture_of config 0 ∷ [])
  first_shown = record { some = omega arith; each = only }
    where
      only : ShowsEachUpdate config (picture_of config 0 ∷ [])
      only zero p at = cc
      only (suc n) p at = absurd cc

  -- a picture was published
  pub publish_shown : (pictures : List PictureValue) (update : ℕ) → update ≡ length pictures
      → AreShown config pictures → AreShown config (pictures ++ picture_of config update ∷ [])
  publish_shown pictures update is h = record {
    some = omega (arith, length-append pictures (picture_of config update ∷ []));
    each = λ u p at. elim (get_pushed pictures (picture_of config update) p u at) [
      | inl before ↦ h.each u p before
      | inr last ↦ sym last.1 ∙ ap (picture_of config) (is ∙ sym last.0)
    ];
  }

  -- the next picture has the number of pictures so far as its number
  pub next_number : (s : State) → IsLawful config s Publish → AreShown config s.pictures
      → s.world.update ≡ length s.pictures
  next_number s may h =
      let end = length s.pictures - 1 in
      let some = h.some in
      let last = get_or s.pictures end (picture_of config 0) in
      let there = slice_get-get_or s.pictures end (picture_of config 0) (omega (arith, some)) in
      let shows : last.update ≡ end = rw (h.each end last there) (picture_update end) in
      omega (arith, some, shows, may.rises last there, picture_update s.world.update)
