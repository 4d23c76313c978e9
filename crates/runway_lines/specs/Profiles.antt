-- The profile of a runway: its centerline from end to end, with its elevations.
use Rattle.std.specs.Prelude.{◌-ℤ◌}
use Rattle.grid_exact.specs.Axes.{line_of}
use Rattle.airfields.specs.declared.runway.Runway.{Runway}
use Rattle.runway_lines.specs.Centerlines.{Profile}
use Rattle.runway_lines.specs.declared.centerline.Centerline.{Centerline}

abbrev pub profile : Centerline → Profile
profile c = record { line = line_of c.axis; z = c.z; rise = c.rise }

-- from end to end of the runway
unfoldable pub profile_of : Runway → Profile
profile_of r = record {
  line = record {
    x = r.end1.at.x;
    y = r.end1.at.y;
    dx = r.end2.at.x -ℤ r.end1.at.x;
    dy = r.end2.at.y -ℤ r.end1.at.y;
  };
  z = r.end1.z;
  rise = r.end2.z -ℤ r.end1.z;
}
