use Rattle.std.proofs.Common.{◌≡◌, sym, arith, ◌*◌, ◌/◌, ◌^◌}
use Rattle.std.proofs.Math.Nat.{div-eq_of_lt-le}
use Rattle.merit_slices.proofs.SliceLemmas.{low-quotient, quotient-and-rest}
use Rattle.merit_slices.proofs.slices.divided.Goals as goal

pub overflow_sub-rest : goal.overflow_sub-rest
overflow_sub-rest c =
    rw (c.from.ensures, c.from-2.ensures)
    (low-quotient c.args.product c.args.all c.args.inverse c.requires.inverse)

pub returns-then-rest-all : goal.returns-then-rest-all
returns-then-rest-all c =
    let low = low-quotient c.args.product c.args.all c.args.inverse c.requires.inverse in
    let within = rw (c.from.ensures, c.from-2.ensures) at c.if-rest-all.true in
    let exact : c.args.product * c.args.inverse / 2 ^ 64 ≡ c.args.product / c.args.all =
    sym (div-eq_of_lt-le c.args.all low (omega (arith, within))) in
    record { value = rw (c.from.ensures, c.from-2.ensures) exact }

pub returns-else-rest-all : goal.returns-else-rest-all
returns-else-rest-all c =
    let low = low-quotient c.args.product c.args.all c.args.inverse c.requires.inverse in
    let exact = quotient-and-rest c.args.product c.args.all _ c.requires.some low in
    record { value = rw (c.from.ensures, c.from-2.ensures) exact }
