use Rattle.std.proofs.Common.{◌≡◌, FitsSigned, w64, sym, to_z-of_z, ◌∙◌}
use Rattle.airfields.specs.Categories.{is_described}
use Rattle.heliport_surfaces.specs.Pads.{excess_over_side, pad_transition_excess}
use Rattle.heliport_surfaces.proofs.PadFacts.{pad_transition-IsExcess, is_there}
use Rattle.heliport_surfaces.proofs.pad.Pad.excess_transition.Goals as goal

pub returns-clause-exact : goal.returns-clause-exact
unfolding pad_transition_excess
returns-clause-exact c =
    let h = c.args.self.now in
    let x = c.args.x.now in
    let beside = c.args.beside in
    let r = c.side.result in
    let ft : FitsSigned w64 c.args.top = c.ranges.top in
    let described = sym c.is_described.ensures.described ∙ c.if-not-is_described.false in
    let value : r ≡ pad_transition_excess h beside x c.args.top = is_there (is_described h.category) r (excess_over_side h beside x c.args.top) described (simp to_z-of_z at c.side.ensures) in
    rw value (pad_transition-IsExcess h beside x c.args.top c.is_described.ensures.held c.requires.top)
