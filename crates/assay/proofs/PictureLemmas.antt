-- The dominant genome that a picture shows.
use Rattle.std.proofs.Common.{◌≡◌, ◌∙◌, ℕ, Option, None, Some, option_map, refl, sym, ap}
use Rattle.census.specs.Counts.{dominant_value}
use Rattle.census.specs.declared.dominant.Dominant.{Dominant}
use Rattle.genome.specs.Genome.{letters}
use Rattle.world_config.specs.Values.{values_of, ConfigValues}
use Rattle.world_core.specs.declared.picture.WorldPicture.{WorldPicture}
use Rattle.world_rules.specs.Picture.{PictureValue, picture_of}
use Rattle.assay.specs.Assay.{dominant_after}

-- the genome of a dominant one with its count
genome_shown : (o : Option Dominant)
    → option_map (λ (d : Dominant). letters d.genome.value) o
    ≡ option_map (λ d. d.genome) (option_map dominant_value o)
genome_shown None = refl
genome_shown (Some d) = refl

-- a picture's dominant genome is that of its world
pub dominant_shown : (config : ConfigValues) (update : ℕ) (p : WorldPicture)
    → values_of p.config.value ≡ config → p.update ≡ update
    → option_map (λ (d : Dominant). letters d.genome.value) p.dominant
    ≡ dominant_after config update
unfolding picture_of
dominant_shown config update p same at =
    genome_shown p.dominant
    ∙ sym (ap (λ (q : PictureValue). option_map (λ d. d.genome) q.dominant) p.shown)
    ∙ ap (λ (c : ConfigValues). dominant_after c p.update) same
    ∙ ap (dominant_after config) at
