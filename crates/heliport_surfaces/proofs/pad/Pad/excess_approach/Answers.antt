use Rattle.std.proofs.Common.{◌≡◌, FitsSigned, w64, sym, to_z-of_z, ◌∙◌}
use Rattle.airfields.specs.Categories.{is_described}
use Rattle.heliport_surfaces.specs.Approaches.{excess_over_approach}
use Rattle.heliport_surfaces.specs.Pads.{approach_of, pad_approach_excess}
use Rattle.heliport_surfaces.specs.Shapes.{approach_shape}
use Rattle.heliport_surfaces.proofs.PadFacts.{pad_approach-IsExcess, there}
use Rattle.heliport_surfaces.proofs.pad.Pad.excess_approach.Goals as goal

pub returns-clause-exact : goal.returns-clause-exact
unfolding pad_approach_excess
returns-clause-exact c =
    let h = c.args.self.now in
    let x = c.args.x.now in
    let r = c.excess.result in
    let ft : FitsSigned w64 c.args.top = c.ranges.top in
    let described = sym c.is_described.ensures.described ∙ c.if-not-is_described.false in
    let value : r ≡ pad_approach_excess h c.args.end x c.args.top =
    there (is_described h.category) excess_over_approach (λ p. p.line) (approach_shape c.approach-approach.result.now) (approach_of h c.args.end) c.offset.result.offset x c.args.top r
    described c.approach-approach.ensures c.offset.ensures (simp to_z-of_z at c.excess.ensures) in
    rw value (pad_approach-IsExcess h c.args.end x c.args.top c.is_described.ensures.held c.requires.top)
