use Rattle.heliport_surfaces.proofs.PadFacts.{length_back}
use Rattle.heliport_surfaces.proofs.prepare.outward.Goals as goal

pub axis_from-requires-clause-least : goal.axis_from-requires-clause-least
axis_from-requires-clause-least c =
    let h = c.args.heliport.now in
    rw (length_back h.a h.b) c.requires.held.axis_least

pub axis_from-requires-clause-most : goal.axis_from-requires-clause-most
axis_from-requires-clause-most c =
    let h = c.args.heliport.now in
    rw (length_back h.a h.b) c.requires.held.axis_most
