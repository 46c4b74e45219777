use Rattle.world_laws.proofs.laws.lines_are_lawful.Goals as goal

pub returns : goal.returns
returns c =
    record { numbered = c.ids_are_places.ensures; line = c.lines_come_from_parents.ensures }
