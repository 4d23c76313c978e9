use Rattle.std.proofs.Common.{refl}
use Rattle.imaginary_surfaces.proofs.AreaFacts.{strip_skips}
use Rattle.imaginary_surfaces.proofs.strip.Strip.areas.Goals as goal

pub returns-clause-areas : goal.returns-clause-areas
returns-clause-areas c =
    let e = c.six_areas-six.ensures in
    record { six = c.six_areas-six.result; ordered = refl; exact = e.exact; covers = e.covers }

pub returns-clause-skips : goal.returns-clause-skips
returns-clause-skips c = λ x top cap l h.
    let six = c.six_areas-six.result in
    let e = c.six_areas-six.ensures in
    record { six = six; ordered = refl; skips = strip_skips c.args.self.now c.args.hull.now six x top cap e.proper e.covers l h }
