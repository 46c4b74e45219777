use Rattle.std.proofs.Common.{arith}
use Rattle.saved_lines.proofs.Prelude.{any_flag, head_ranges}
use Rattle.saved_lines.proofs.RangeLemmas.{bound_at}
use Rattle.saved_lines.proofs.reading.head_of.Goals as goal

pub invariant_of-result : goal.invariant_of-result
invariant_of-result c =
    let numbers = c.args.numbers.now in
    record {
      copy_fits = bound_at head_ranges numbers 9 any_flag c.requires (omega arith);
      insert_fits = bound_at head_ranges numbers 10 any_flag c.requires (omega arith);
      delete_fits = bound_at head_ranges numbers 11 any_flag c.requires (omega arith);
      site_point_fits = bound_at head_ranges numbers 12 any_flag c.requires (omega arith);
      site_insert_fits = bound_at head_ranges numbers 13 any_flag c.requires (omega arith);
      site_delete_fits = bound_at head_ranges numbers 14 any_flag c.requires (omega arith);
    }
