-- What the functions answer of logs and saved worlds is what their bytes are read as.
use Rattle.std.proofs.Common.{◌≡◌, ◌↔◌, ◌∙◌, ap, refl}

-- what is made of a reading is what is made of the one reading that there is
pub made_exactly : {A B : Type 0} (reading : A → Type 0) (there : A)
    → ((read : A) → reading read ↔ (there ≡ read)) → (made : A → B) (answer : B)
    → ((read : A) × reading read × (made read ≡ answer)) ↔ (made there ≡ answer)
made_exactly reading there exactly made answer =
    (λ h. ap made ((exactly h.0).0 h.1) ∙ h.2, λ is. (there, (exactly there).1 refl, is))
