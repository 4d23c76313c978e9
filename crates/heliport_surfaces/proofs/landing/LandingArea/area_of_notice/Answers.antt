use Rattle.std.proofs.Common.{pos, arith, subst}
use Rattle.std.proofs.lemmas.Int.{ints}
use Rattle.outline_boxes.specs.Rectangles.{Rectangle, HasRectangleWithin}
use Rattle.heliport_surfaces.specs.Shapes.{landing_shape}
use Rattle.heliport_surfaces.proofs.AreaFacts.{notice_in}
use Rattle.heliport_surfaces.proofs.landing.LandingArea.area_of_notice.Goals as goal

pub returns-clause-covers : goal.returns-clause-covers
returns-clause-covers c = λ x h.
    let s = c.args.self.now in
    let box = c.area_within.result in
    notice_in (landing_shape s) box x (omega (arith, ints, s.sized.width_least)) s.axis.axis.square
    (subst (λ (r : Rectangle). HasRectangleWithin r (pos 50000) box) c.outline.ensures c.area_within.ensures.exact.holds) h
