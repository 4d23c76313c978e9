-- The ends of a runway, the centers of its primary surface's ends, and its class: 77.19(c).
use Rattle.std.specs.Prelude.{ℤ, ◌-ℤ◌}
use Rattle.grid_exact.specs.Lines.{Line}
use Rattle.runway_classes.specs.declared.class.EndClass.{EndClass}
use Rattle.runway_classes.specs.declared.class.RunwayClass.{RunwayClass}
use Rattle.runway_classes.specs.Class.{runway_class}
use Rattle.airfields.specs.declared.runway.Runway.{Runway}
use Rattle.airfields.specs.declared.runway.RunwayEnd.{RunwayEnd}
use Rattle.airfields.specs.Runways.{length_square, effective}
use Rattle.runway_lines.specs.declared.end.End.{End}
use Rattle.runway_lines.specs.declared.end.End.TheVariants.{One, Two}
use Rattle.runway_lines.specs.Centers.{IsCenter, center}

abbrev pub other_end : End → End
other_end One = Two
other_end Two = One

abbrev pub end_of : Runway → End → RunwayEnd
end_of r One = r.end1
end_of r Two = r.end2

-- the center of the end of the primary surface at this end of the runway
abbrev pub center_x : Runway → End → ℤ
center_x r end = center r.hard (end_of r end).at.x (end_of r (other_end end)).at.x (length_square r)

abbrev pub center_y : Runway → End → ℤ
center_y r end = center r.hard (end_of r end).at.y (end_of r (other_end end)).at.y (length_square r)

-- the two centers are those of 77.19(c)
pub record AreCenters (r : Runway) (ends : (ℤ × ℤ) × (ℤ × ℤ)) : Type 0 where
  pub x1 : IsCenter r.hard r.end1.at.x r.end2.at.x (length_square r) ends.0.0
  pub y1 : IsCenter r.hard r.end1.at.y r.end2.at.y (length_square r) ends.0.1
  pub x2 : IsCenter r.hard r.end2.at.x r.end1.at.x (length_square r) ends.1.0
  pub y2 : IsCenter r.hard r.end2.at.y r.end1.at.y (length_square r) ends.1.1

abbrev pub centers : Runway → (ℤ × ℤ) × (ℤ × ℤ)
centers r = ((center_x r One, center_y r One), (center_x r Two, center_y r Two))

-- from the center at one end to the center at the other, starting at `start`
abbrev pub line_between : Runway → (start from to : End) → Line
line_between r start from to = record {
  x = center_x r start;
  y = center_y r start;
  dx = center_x r to -ℤ center_x r from;
  dy = center_y r to -ℤ center_y r from;
}

-- over the approaches that the ends have or are planned for
abbrev pub class_of : Runway → RunwayClass
class_of r = runway_class r.utility (effective r.end1) (effective r.end2)

abbrev pub end_class_of : Runway → End → EndClass
end_class_of r One = (class_of r).end1
end_class_of r Two = (class_of r).end2
