use Rattle.std.proofs.Common.{◌≡◌, ◌<◌, ℕ, List, Option, Bor, Result, Err, length, sym, subst, ◌∙◌, arith, rules}
use Rattle.std.specs.Prelude.{IfSome}
use Rattle.checkpoint.proofs.Prelude.{SavedState, saved_of, SavedStop, saved_place_of, Ends, IsFaultOf, SoFarValue}
use Rattle.checkpoint.proofs.ReadLemmas.{left_faulty, left_on}
use Rattle.checkpoint.proofs.read.read_lines.Goals as goal

pub returns-in_err-place : goal.returns-in_err-place
returns-in_err-place c =
    let e : SavedStop = c.in_err-place.field-0.0 in
    let is : c.from_residual.result ≡ Err e = search rules in
    let bad : IsFaultOf e (saved_of c.args.bytes.now) =
    subst (λ (r : Result SavedState SavedStop). IsFaultOf e r) c.loop-behind.invariant.left
    (left_faulty c.loop-behind.number (saved_place_of c.loop-behind.place) c.loop-behind.rest.now
    c.split_at.result.0.now c.split_at.result.1 c.in-Some.behind c.split_at.ensures.pieces
    c.in-Some.is e c.in_err-place.ensures) in
    subst (λ (r : Result SoFarValue SavedStop). Ends r (saved_of c.args.bytes.now)) (sym is) bad

pub loop-behind-preserved : goal.loop-behind-preserved
loop-behind-preserved c =
    let rest = c.loop-behind.rest.now in
    let shorter : length c.in-Some.behind.now < length rest =
    subst (λ (o : Option (Bor (List ℕ))). IfSome o (λ behind. length behind.now < length rest))
    c.in-Some.is c.split_at.ensures.shorter in
    record {
      left = sym (left_on c.loop-behind.number (saved_place_of c.loop-behind.place) rest
          c.split_at.result.0.now c.split_at.result.1 c.in-Some.behind c.split_at.ensures.pieces
          c.in-Some.is c.in_ok-place.place c.in_ok-place.ensures) ∙ c.loop-behind.invariant.left;
      few = omega (arith, shorter, c.loop-behind.invariant.few);
    }
