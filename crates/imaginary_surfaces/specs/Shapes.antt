-- For proofs alone: the prepared parts of a runway as specs see them.
use Rattle.grid_exact.specs.Axes.{line_of}
use Rattle.imaginary_surfaces.specs.declared.short_slope.ShortSlope.{ShortSlope}
use Rattle.imaginary_surfaces.specs.Primaries.{Primary}
use Rattle.imaginary_surfaces.specs.Approaches.{Approach}
use Rattle.imaginary_surfaces.specs.Transitions.{Incline}
use Rattle.runway_lines.specs.Profiles.{profile}
use Rattle.imaginary_surfaces.specs.declared.primary.PrimarySurface.{PrimarySurface}
use Rattle.imaginary_surfaces.specs.declared.approach.ApproachSurface.{ApproachSurface}

abbrev pub primary_shape : PrimarySurface → Primary
primary_shape p = record { line = line_of p.axis; width = p.width; profile = profile p.centerline }

abbrev pub approach_shape : ApproachSurface → Approach
approach_shape a = record { line = line_of a.axis; width = a.width; class = a.class; z = a.z; precision = a.precision }

abbrev pub incline_of : ShortSlope → Incline
incline_of s = record { left = s.a; factor = s.k; shift = s.c; square = s.n }
