use Rattle.std.proofs.Common.{◌≡◌, FitsSigned, w64, sym, to_z-of_z, ◌∙◌}
use Rattle.airfields.specs.Categories.{is_described}
use Rattle.heliport_surfaces.specs.Landings.{excess_over_primary}
use Rattle.heliport_surfaces.specs.Pads.{landing_of, pad_primary_excess}
use Rattle.heliport_surfaces.specs.Shapes.{landing_shape}
use Rattle.heliport_surfaces.proofs.PadFacts.{pad_primary-IsExcess, there}
use Rattle.heliport_surfaces.proofs.pad.Pad.excess_primary.Goals as goal

pub returns-clause-exact : goal.returns-clause-exact
unfolding pad_primary_excess
returns-clause-exact c =
    let h = c.args.self.now in
    let x = c.args.x.now in
    let r = c.excess.result in
    let ft : FitsSigned w64 c.args.top = c.ranges.top in
    let described = sym c.is_described.ensures.described ∙ c.if-not-is_described.false in
    let value : r ≡ pad_primary_excess h x c.args.top =
    there (is_described h.category) excess_over_primary (λ p. p.line) (landing_shape c.landing-landing.result.now) (landing_of h) c.offset.result.offset x c.args.top r
    described c.landing-landing.ensures c.offset.ensures (simp to_z-of_z at c.excess.ensures) in
    rw value (pad_primary-IsExcess h x c.args.top c.is_described.ensures.held c.requires.top)
