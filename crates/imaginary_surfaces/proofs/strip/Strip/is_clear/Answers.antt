use Rattle.std.proofs.Common.{FitsSigned, w64, to_z-of_z, subst}
use Rattle.std.specs.Prelude.{IsTrue}
use Rattle.airfields.specs.declared.runway.Runway.{Runway}
use Rattle.airfields.specs.Runways.{IsProper}
use Rattle.grid_exact.specs.Lines.{Offset}
use Rattle.runway_lines.specs.declared.end.End.TheVariants.{One, Two}
use Rattle.imaginary_surfaces.specs.Clearances.{IsClear, IsClearance}
use Rattle.imaginary_surfaces.specs.Strips.{primary_of, approach_of}
use Rattle.imaginary_surfaces.proofs.ClearSurfaces.{strip_clear}
use Rattle.imaginary_surfaces.proofs.strip.Strip.is_clear.Goals as goal

pub returns : goal.returns
returns c =
    let r = c.args.self.now in
    let top = c.args.top in
    let i = c.self.inside.clearance in
    let ft : FitsSigned w64 top = c.ranges.top in
    let p : IsProper r = subst (λ (q : Runway). IsProper q) c.self.view_is c.self.invariant.proper in
    let h : IsClearance (primary_of r) (approach_of r One) (approach_of r Two) i = subst (λ (q : Runway). IsClearance (primary_of q) (approach_of q One) (approach_of q Two) i) c.self.view_is c.self.invariant.clear in
    let k : IsTrue c.is_clear.result → IsClear i c.args.at.now top = simp to_z-of_z at c.is_clear.ensures in
    record { none = λ t cap. strip_clear r c.args.x.now i top cap p c.requires.top h (subst (λ (o : Offset). IsClear i o top) c.requires.at (k t)) }
