use Rattle.std.proofs.Common.{refl}
use Rattle.heliport_surfaces.proofs.AreaFacts.{pad_skips}
use Rattle.heliport_surfaces.proofs.pad.Pad.areas.Goals as goal

pub returns-clause-areas : goal.returns-clause-areas
returns-clause-areas c =
    let e = c.seven_areas-seven.ensures in
    record { seven = c.seven_areas-seven.result; ordered = refl; exact = e.exact; covers = e.covers }

pub returns-clause-skips : goal.returns-clause-skips
returns-clause-skips c = λ x top l.
    let seven = c.seven_areas-seven.result in
    let e = c.seven_areas-seven.ensures in
    record { seven = seven; ordered = refl; skips = pad_skips c.args.self.now seven x top e.held e.covers l }
