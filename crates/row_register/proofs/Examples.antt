-- Rows that the definitions compute.
use Rattle.std.proofs.Common.{arith, ◌≡◌, pos, neg_ℤ, [], None, codes, refl, true, false}
use Rattle.std.specs.Fmt.{digits}
use Rattle.std.proofs.lemmas.Int.{ints}
use Rattle.grid_exact.specs.declared.point.Point.{Point}
use Rattle.runway_classes.specs.declared.ApproachKind.TheVariants as approaches
use Rattle.airfields.specs.declared.category.Category.TheVariants as categories
use Rattle.airfields.specs.declared.airfield.Airfield.{Airfield}
use Rattle.airfields.specs.declared.airfield.Airfield.TheVariants as airfields
use Rattle.row_register.specs.Airfields.{airfield_key, airfield_row}
use Rattle.row_register.specs.Runways.{runway_key, runway_row}
use Rattle.row_register.specs.declared.runway.RunwayRow.{RunwayRow}

origin : Point
origin = record { x = pos 0; y = pos 0; on_grid = record { west = omega (arith, ints); east = omega (arith, ints); south = omega (arith, ints); north = omega (arith, ints) } }

west : Point
west = record { x = neg_ℤ (pos 50000); y = pos 0; on_grid = record { west = omega (arith, ints); east = omega (arith, ints); south = omega (arith, ints); north = omega (arith, ints) } }

east : Point
east = record { x = pos 50000; y = pos 0; on_grid = record { west = omega (arith, ints); east = omega (arith, ints); south = omega (arith, ints); north = omega (arith, ints) } }

aaa : Airfield
aaa = airfields.Airport (record { id = codes "AAA"; category = categories.PublicUse; arp = origin; elevation = pos 1000; runways = [] })

aaa_key : airfield_key aaa ≡ codes "AAA"
unfolding aaa
aaa_key = refl

aaa_row : airfield_row aaa ≡ codes "airport,public,0,0,1000"
unfolding aaa origin digits
aaa_row = refl

strip : RunwayRow
strip = record {
  id = codes "AAA";
  runway = record {
    name = codes "09/27";
    utility = false;
    hard = true;
    end1 = record { at = west; z = pos 1000; kind = approaches.Precision; planned = None };
    end2 = record { at = east; z = pos 1000; kind = approaches.NonprecisionAbove; planned = None };
  };
}

strip_key : runway_key strip ≡ codes "AAA 09/27"
unfolding strip
strip_key = refl

strip_row : runway_row strip ≡ codes "other,hard,-50000,0,1000,P,50000,0,1000,NA"
unfolding strip west east digits
strip_row = refl
