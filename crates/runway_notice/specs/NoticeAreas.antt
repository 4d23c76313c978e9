-- The area of the slope from the runways of an airport: 77.9(b)(1) and (2).
use Rattle.std.specs.Prelude.{ℤ, ◌+ℤ◌, ◌-ℤ◌, ◌≡◌, ◌≢◌, true, List, []}
use Rattle.std.specs.List.{All}
use Rattle.grid_exact.specs.declared.area.Area.{Area}
use Rattle.grid_exact.specs.declared.point.Point.{Point}
use Rattle.outline_boxes.specs.Boxes.{HoldsBoth, IsLeastBox}
use Rattle.airfields.specs.Categories.{is_described}
use Rattle.airfields.specs.declared.airfield.Airport.{Airport}
use Rattle.airfields.specs.declared.runway.Runway.{Runway}
use Rattle.runway_notice.specs.Slopes.{range_of, sub_of}

-- the airport has a slope: it is of a described category and has a runway
pub record HasSlope (a : Airport) : Type 0 where
  pub described : is_described a.category ≡ true
  pub some_runway : a.runways ≢ []

-- the box of the disc of a radius about a point; it touches the disc on each side
abbrev pub area_around : Point → (radius : ℤ) → Area
area_around p radius = record {
  x0 = p.x -ℤ radius;
  y0 = p.y -ℤ radius;
  x1 = p.x +ℤ radius;
  y1 = p.y +ℤ radius;
}

-- a box contains the discs about both ends of a runway
abbrev pub HoldsEnds : (radius : ℤ) → Runway → Area → Type 0
HoldsEnds radius r = HoldsBoth (area_around r.end1.at radius) (area_around r.end2.at radius)

-- and those about the ends of all runways: the points within the radius of a runway extend no farther than the discs at its ends
abbrev pub HoldsRunways : (radius : ℤ) → List Runway → Area → Type 0
HoldsRunways radius runways box = All (λ r. HoldsEnds radius r box) runways

-- the least such box, for the range of the airport's slope
pub record IsNoticeArea (a : Airport) (box : Area) : Type 0 where
  pub has_slope : HasSlope a
  pub runways_least : IsLeastBox (HoldsRunways (range_of (sub_of a.runways)) a.runways) box
