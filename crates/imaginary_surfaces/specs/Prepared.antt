-- For proofs alone: the prepared surfaces of a runway.
use Rattle.std.specs.Prelude.{◌≡◌}
use Rattle.airfields.specs.declared.runway.Runway.{Runway}
use Rattle.airfields.specs.Runways.{IsProper}
use Rattle.imaginary_surfaces.specs.Shapes.{primary_shape, approach_shape}
use Rattle.imaginary_surfaces.specs.Strips.{primary_of, approach_of}
use Rattle.imaginary_surfaces.specs.declared.primary.PrimarySurface.{PrimarySurface}
use Rattle.imaginary_surfaces.specs.declared.approach.ApproachSurface.{ApproachSurface}
use Rattle.imaginary_surfaces.specs.declared.clearance.Clearance.{Clearance}
use Rattle.imaginary_surfaces.specs.Clearances.{IsClearance}
use Rattle.grid_exact.specs.declared.start.Start.{Start}
use Rattle.runway_lines.specs.declared.end.End.{End}
use Rattle.runway_lines.specs.declared.end.End.TheVariants.{One, Two}
use Rattle.runway_lines.specs.Ends.{center_x, center_y}

-- the runway is within its limits, and the surfaces are its own
pub record IsPrepared (r : Runway) (primary : PrimarySurface) (approach1 approach2 : ApproachSurface) (clearance : Clearance) : Type 0 where
  pub proper : IsProper r
  pub primary_is : primary_shape primary ≡ primary_of r
  pub approach1_is : approach_shape approach1 ≡ approach_of r One
  pub approach2_is : approach_shape approach2 ≡ approach_of r Two
  pub clear : IsClearance (primary_of r) (approach_of r One) (approach_of r Two) clearance

-- the center of the primary surface's end at this end of the runway
pub record IsCenterOf (r : Runway) (end : End) (s : Start) : Type 0 where
  pub x : s.x ≡ center_x r end
  pub y : s.y ≡ center_y r end
