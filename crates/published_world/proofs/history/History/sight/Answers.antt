use Rattle.std.proofs.Common.{length, ap, sym, subst, ◌∙◌}
use Rattle.published_world.specs.PublicationHistory.{IsPublication, last_of}
use Rattle.published_world.proofs.history.History.sight.Goals as goal

pub new-requires : goal.new-requires
new-requires g c =
    let whole = c.in-Ok.ensures.reader ∙ c.loop.invariant.2 in
    let same = c.reader.ensures.history ∙ sym c.in-Ok.ensures.reader in record {
      length_is = ap length whole ∙ sym c.count.ensures;
      last_is = ap last_of whole ∙ c.requires;
      publication =
          subst (IsPublication g.P.Picture.number g.P.Picture.of) same c.reader.ensures.publication;
    }
