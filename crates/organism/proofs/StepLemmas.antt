-- One step within an update, by whether something follows from its letter.
use Rattle.std.proofs.Common.{◌≡◌, ◌∙◌, ap, refl, sym, ℕ, Option}
use Rattle.organism.proofs.Prelude.{RuleNumbers, Letter, letter_under_ip, with_ip_marked, step, after_letter, life_step, OrganismState, SettingNumbers, LifeState, after_effect, after_outcome, after_step, after_copy_of, copy_of, Outcome, Nothing}

-- the effect of the letter under IP, once its place is marked, is one step of the life
pub letter-step : (o marked : OrganismState) (letter : Letter) (copy : Option Letter)
    (rules : RuleNumbers) → letter ≡ letter_under_ip o.machine
    → marked ≡ record o { machine = with_ip_marked o.machine }
    → after_letter marked letter copy rules ≡ life_step o copy rules
unfolding life_step after_letter step
letter-step o marked letter copy rules taken mark = rw (taken, mark) refl

module _ (settings : SettingNumbers) (words : ℕ → ℕ) (s : LifeState) (letter : Letter)
    (marked : OrganismState) (taken : letter ≡ letter_under_ip s.organism.machine)
    (mark : marked ≡ record s.organism { machine = with_ip_marked s.organism.machine }) where
  -- a step is the effect of the letter under IP, once the test for a copy error is done
  step-effect : after_step settings words s ≡ after_effect settings words (record s {
    organism = marked;
    next = after_copy_of letter words settings.rates.copy s.next;
  }) letter (copy_of letter words settings.rates.copy s.next)
  unfolding after_step life_step after_letter step
  step-effect = rw (taken, mark) refl

  -- where nothing follows
  pub step-quiet : (next : OrganismState)
      → (next, Nothing)
      ≡ after_letter marked letter (copy_of letter words settings.rates.copy s.next) settings.rules
      → record s { organism = next; next = after_copy_of letter words settings.rates.copy s.next }
      ≡ after_step settings words s
  step-quiet next quiet =
      ap (λ (stepped : OrganismState × Outcome). after_outcome settings words (record s {
        organism = stepped.0;
        next = after_copy_of letter words settings.rates.copy s.next;
      }) stepped.1) quiet ∙ sym step-effect
