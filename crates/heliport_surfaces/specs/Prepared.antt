-- For proofs alone: the prepared surfaces of a heliport.
use Rattle.std.specs.Prelude.{◌≡◌}
use Rattle.airfields.specs.Airfields.{IsHeldHeliport}
use Rattle.airfields.specs.declared.airfield.Heliport.{Heliport}
use Rattle.heliport_surfaces.specs.Shapes.{landing_shape, approach_shape}
use Rattle.heliport_surfaces.specs.Pads.{landing_of, approach_of}
use Rattle.heliport_surfaces.specs.declared.landing.LandingArea.{LandingArea}
use Rattle.heliport_surfaces.specs.declared.approach.PadApproach.{PadApproach}
use Rattle.heliport_surfaces.specs.declared.parts.PadEnd.TheVariants.{One, Two}

-- the heliport is within its limits, and the parts are its own
pub record IsPrepared (h : Heliport) (landing : LandingArea) (approach1 approach2 : PadApproach) : Type 0 where
  pub held : IsHeldHeliport h
  pub landing_is : landing_shape landing ≡ landing_of h
  pub approach1_is : approach_shape approach1 ≡ approach_of h One
  pub approach2_is : approach_shape approach2 ≡ approach_of h Two
