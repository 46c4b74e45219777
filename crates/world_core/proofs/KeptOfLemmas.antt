-- What is kept of who stands in the cells, as one of them changes.
use Rattle.std.proofs.Common.{◌≡◌, ◌∙◌, sym, ap, Result, Ok, Err, OnOk, ℕ, ◌<◌, ◌≤◌, ◌^◌, List, [], length, set, get_or, Option, Some, None, is_some, replicate, arith}
use Rattle.world_core.proofs.Prelude.{get_or_read, map-set, length-map, set-get_or, count_by-le-length, CanAdd, CanRemove, HasOneFewer, HasOneMore, Counts, Letter, Occupant, IsPrefix, with_genome, IsKeptOf, AreDifferent, AreSummedIn, occupant_genome, occupant_genomes, map-replicate, OneList, with_genome-begins}
use Rattle.std.proofs.Math.ListN.{get_or-map}
use Rattle.std.specs.Prelude.{OnErr, slice_get}
use Rattle.world_core.proofs.ChangeLemmas.{AreCountedIn-put, AreCountedIn-removed}
use Rattle.world_core.proofs.StandingLemmas.{AreCountedIn-more, AreCountedIn-none, some-counted}
use Rattle.world_core.proofs.SumLemmas.{AreSummedIn-none, AreSummedIn-put, AreSummedIn-removed, credited-counted, merit-counted, merit-room, tasks-room}

-- nobody stands anywhere
pub IsKeptOf-none : (n : ℕ) (cells : List (Option Occupant)) (genomes : List (List Letter))
    (keys : List ℕ) (counts : Counts) → cells ≡ replicate n None → genomes ≡ [] → length keys ≡ n
    → counts ≡ record { genotypes = []; merit = 0; tasks = replicate 9 0 } → n ≤ 65536
    → IsKeptOf cells genomes keys counts
IsKeptOf-none n cells genomes keys counts empty unnumbered long nothing few =
    rw (empty, unnumbered, nothing) (record {
      different = λ number other genome is has. cc;
      genotypes = rw (map-replicate occupant_genome n None) (AreCountedIn-none n keys long);
      sums = AreSummedIn-none n few;
    })

-- the number that is read at a cell
pub key-read : (cells : List (Option Occupant)) (genomes : List (List Letter)) (keys : List ℕ)
    (counts : Counts) (cell key : ℕ) → IsKeptOf cells genomes keys counts → cell < length cells
    → key ≡ get_or keys cell key → key ≡ get_or keys cell 0
key-read cells genomes keys counts cell key kept within read =
    get_or_read keys cell key
    (omega (arith, within, kept.genotypes.size, length-map cells occupant_genome)) read 0

-- the genome in a cell
standing-at : (cells : List (Option Occupant)) (cell : ℕ) → cell < length cells
    → get_or (occupant_genomes cells) cell None ≡ occupant_genome (get_or cells cell None)
standing-at cells cell within =
    get_or-map occupant_genome cells cell None

-- the key of a cell is the number of the genome that stands there
pub key-is : (cells : List (Option Occupant)) (genomes : List (List Letter)) (keys : List ℕ)
    (counts : Counts) (cell : ℕ) (o : Occupant) → cell < length cells
    → get_or cells cell None ≡ Some o → IsKeptOf cells genomes keys counts
    → slice_get genomes (get_or keys cell 0) ≡ Some o.organism.genome
key-is cells genomes keys counts cell o within here kept =
    kept.genotypes.keyed cell o.organism.genome
    (standing-at cells cell within ∙ ap occupant_genome here)

module _ (one_list : OneList) (cells : List (Option Occupant)) (genomes : List (List Letter))
    (keys : List ℕ) (before after : Counts) (cell : ℕ) (within : cell < length cells) where
  -- in an empty cell nobody dies
  pub IsKeptOf-empty : get_or cells cell None ≡ None → IsKeptOf cells genomes keys before
      → IsKeptOf (set cells cell None) genomes keys before
  IsKeptOf-empty here kept =
      rw (ap (set cells cell) (sym here) ∙ set-get_or cells cell None) kept

  module _ (o : Occupant) (kept : IsKeptOf cells genomes keys before)
      (here : get_or cells cell None ≡ Some o) where
    stands : get_or (occupant_genomes cells) cell None ≡ Some o.organism.genome
    stands = standing-at cells cell within ∙ ap occupant_genome here

    wide : cell < length (occupant_genomes cells)
    wide = omega (arith, within, length-map cells occupant_genome)

    -- an organism that stands in a cell may go
    pub can-remove : CanRemove before (get_or keys cell 0) o.organism.merit o.organism.credited
    can-remove = record {
      counted = some-counted one_list (occupant_genomes cells) genomes keys before.genotypes cell
          o.organism.genome wide stands kept.genotypes;
      merits = merit-counted cells cell o before.merit before.tasks within here kept.sums;
      tasks = credited-counted cells cell o before.merit before.tasks within here kept.sums;
    }

    -- once it has gone
    pub IsKeptOf-removed : HasOneFewer before after (get_or keys cell 0) o.organism.merit
        o.organism.credited → IsKeptOf (set cells cell None) genomes keys after
    IsKeptOf-removed fewer = record {
      different = kept.different;
      genotypes = rw (map-set occupant_genome cells cell None)
          (AreCountedIn-removed one_list (occupant_genomes cells) genomes keys before.genotypes
          after.genotypes cell o.organism.genome kept.different wide stands kept.genotypes
          fewer.under fewer.living);
      sums = rw (fewer.merits, fewer.tasks)
          (AreSummedIn-removed cells cell o before.merit before.tasks within here kept.sums);
    }

  module _ (o : Occupant) (number : ℕ)
      (number_is : slice_get genomes number ≡ Some o.organism.genome)
      (empty : get_or cells cell None ≡ None) (fits : o.organism.merit ≤ 2 ^ 38)
      (kept : IsKeptOf cells genomes keys before) where
    -- an organism may come into an empty cell
    pub can-add : CanAdd before number o.organism.genome o.organism.merit
    can-add = record {
      one_genome = λ genotype at.
          (let some : Some genotype.genome ≡ Some o.organism.genome =
          sym (kept.genotypes.named number genotype at) ∙ number_is in cc);
      one_key = λ other genotype at same. kept.different other number o.organism.genome
          (kept.genotypes.named other genotype at ∙ ap Some same) number_is;
      living = omega (
        arith,
        kept.genotypes.living,
        kept.sums.few,
        length-map cells occupant_genome,
        count_by-le-length is_some (occupant_genomes cells),
      );
      merits = omega (arith, fits, merit-room cells before.merit before.tasks kept.sums);
      tasks = tasks-room cells before.merit before.tasks kept.sums;
    }

    -- once it stands there
    pub IsKeptOf-put : HasOneMore before after number o.organism.genome o.organism.merit
        o.organism.credited
        → IsKeptOf (set cells cell (Some o)) genomes (set keys cell number) after
    IsKeptOf-put more = record {
      different = kept.different;
      genotypes = rw (map-set occupant_genome cells cell (Some o))
          (AreCountedIn-put one_list (occupant_genomes cells) genomes keys before.genotypes
          after.genotypes cell number o.organism.genome kept.different
          (omega (arith, within, length-map cells occupant_genome))
          (standing-at cells cell within ∙ ap occupant_genome empty) number_is kept.genotypes
          more.under more.living);
      sums = rw (more.merits, more.tasks)
          (AreSummedIn-put cells cell o before.merit before.tasks within empty fits kept.sums);
    }

-- where the bank grows what is kept stays
pub IsKeptOf-more : OneList
    → (cells : List (Option Occupant)) (before after : List (List Letter)) (keys : List ℕ)
    (counts : Counts) → IsPrefix before after → AreDifferent after
    → IsKeptOf cells before keys counts → IsKeptOf cells after keys counts
IsKeptOf-more one_list cells before after keys counts prefix different kept = record {
  different = different;
  genotypes = AreCountedIn-more one_list (occupant_genomes cells) before keys counts.genotypes after
      prefix different kept.genotypes;
  sums = kept.sums;
}

-- a genome more has a number, or none where memory ran out, and nothing else is kept otherwise
pub IsKeptOf-interned : {T E : Type 0} → OneList
    → (cells : List (Option Occupant)) (before after : List (List Letter)) (keys : List ℕ)
    (counts : Counts) (new : List Letter) (result : Result T E)
    → OnOk result (after ≡ with_genome before new) → OnErr result (after ≡ before)
    → AreDifferent after → IsKeptOf cells before keys counts → IsKeptOf cells after keys counts
IsKeptOf-interned one_list cells before after keys counts new (Ok value) more same different kept =
    IsKeptOf-more one_list cells before after keys counts
    (rw more (with_genome-begins before new)) different kept
IsKeptOf-interned one_list cells before after keys counts new (Err error) more same different kept =
    rw same kept

-- all have lived
pub IsKeptOf-lived : (cells next : List (Option Occupant)) (genomes : List (List Letter))
    (keys : List ℕ) (before after : Counts) → IsKeptOf cells genomes keys before
    → after.genotypes ≡ before.genotypes → occupant_genomes next ≡ occupant_genomes cells
    → AreSummedIn next after.merit after.tasks → IsKeptOf next genomes keys after
IsKeptOf-lived cells next genomes keys before after kept same standing sums = record {
  different = kept.different;
  genotypes = rw (standing, same) kept.genotypes;
  sums = sums;
}
