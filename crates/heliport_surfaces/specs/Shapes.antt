-- For proofs alone: the prepared parts of a heliport, and positions of points relative to them.
use Rattle.grid_exact.specs.declared.slope.Slope.{Slope}
use Rattle.heliport_surfaces.specs.Axes.{pad_line}
use Rattle.heliport_surfaces.specs.Places.{Heights, Place}
use Rattle.heliport_surfaces.specs.Landings.{Landing}
use Rattle.heliport_surfaces.specs.Approaches.{Approach}
use Rattle.heliport_surfaces.specs.Notices.{Gap}
use Rattle.heliport_surfaces.specs.declared.place.PadPlace.{PadPlace}
use Rattle.heliport_surfaces.specs.declared.landing.LandingArea.{LandingArea}
use Rattle.heliport_surfaces.specs.declared.approach.PadApproach.{PadApproach}
use Rattle.heliport_surfaces.specs.declared.gap.LandingGap.{LandingGap}

abbrev pub landing_shape : LandingArea → Landing
landing_shape l = record { line = pad_line l.axis; width = l.width; z = l.z }

abbrev pub approach_shape : PadApproach → Approach
approach_shape a = record { line = pad_line a.axis; width = a.width; z = a.z; slope = a.slope }

abbrev pub place_shape : PadPlace → Place
place_shape p = record { is_along = p.is_along; out = p.out; edge = p.edge; aside = p.aside; square = p.square }

abbrev pub slope_heights : Slope → Heights
slope_heights s = record { a = s.a; k = s.k; c = s.c; n = s.n }

abbrev pub gap_shape : LandingGap → Gap
gap_shape g = record { beyond = g.beyond; aside = g.aside; width = g.width; square = g.square }
