-- A world's picture, and its line (docs/WORLD.md, "Statistics"; docs/FORMATS.md, "Watch lines").
-- For example, `W 12 3 2 291 2 mmmmmmmm` says that after update 12 three organisms live, with two
-- genomes and a sum of merits of 291, and that two of them have the dominant genome.
use Rattle.std.specs.Prelude.{ℕ, List, [], ◌∷◌, ◌++◌, Option, None, Some, codes, decimal}
use Rattle.world_rules.specs.Prelude.{GenotypeCount, words_text, ConfigValues}
use Rattle.genome.specs.GenomeText.{letters_text_of}
use Rattle.world_rules.specs.Statistics.{stats_of, dominant_of}
use Rattle.world_rules.specs.WorldRun.{world_after}

-- the update, the living, their genotypes, their merits' sum, the dominant genome with its count
pub record PictureValue : Type 0 where
  pub update : ℕ
  pub living : ℕ
  pub genotypes : ℕ
  pub merit : ℕ
  pub dominant : Option GenotypeCount

-- the picture of the world after so many updates
unfoldable pub picture_of : ConfigValues → ℕ → PictureValue
picture_of config update = record {
  update = update;
  living = (stats_of config update).living;
  genotypes = (stats_of config update).genotypes;
  merit = (stats_of config update).merit;
  dominant = dominant_of (world_after config update).cells;
}

-- the count and the letters of a dominant genome; in an empty world 0 and a dash
abbrev pub dominant_words : Option GenotypeCount → List (List ℕ)
dominant_words None = decimal 0 ∷ codes "-" ∷ []
dominant_words (Some d) = decimal d.count ∷ letters_text_of d.genome ∷ []

-- the line of a picture
unfoldable pub picture_text : PictureValue → List ℕ
picture_text p =
    codes "W" ++ (words_text
    (decimal p.update ∷ decimal p.living ∷ decimal p.genotypes ∷ decimal p.merit
    ∷ dominant_words p.dominant) ++ codes "\n")
