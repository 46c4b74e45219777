use Rattle.std.proofs.Common.{refl}
use Rattle.checkpoint.proofs.PartLemmas.{all_cells, one_more}
use Rattle.checkpoint.proofs.laws.texts_are_written_by_cells.Goals as goal

pub returns : goal.returns
returns c =
    record {
      none = λ cells. refl;
      more = λ cells cell there. one_more cells cell there;
      whole = λ state. all_cells state;
    }
