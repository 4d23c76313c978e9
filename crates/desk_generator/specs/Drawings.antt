-- Drawn airports, each with a runway, and drawn structures.
use Rattle.std.specs.Prelude.{◌≡◌, ℕ, ◌+◌, ◌*◌, ◌/◌, ◌%◌, List, [], ◌∷◌, codes, ℤ, pos, neg_ℤ, ◌+ℤ◌, ◌-ℤ◌, int_le, Bool, true, false, ◌&&◌, None, refl}
use Rattle.std.proofs.lemmas.Bool.{and_parts}
use Rattle.grid_exact.specs.Grid.{OnGrid}
use Rattle.grid_exact.specs.declared.point.Point.{Point}
use Rattle.grid_exact.specs.declared.point.TheConstants.{COORDINATE_LIMIT}
use Rattle.grid_exact.proofs.TestFacts.{le_in}
use Rattle.runway_classes.specs.declared.ApproachKind.{ApproachKind}
use Rattle.airfields.specs.declared.runway.Runway.{Runway}
use Rattle.airfields.specs.declared.runway.RunwayEnd.{RunwayEnd}
use Rattle.airfields.specs.declared.structure.Flags.{Flags}
use Rattle.airfields.specs.declared.structure.StructureKind.TheVariants.{Object}
use Rattle.airfields.specs.Sites.{Site, site}
use Rattle.desk_generator.specs.declared.drawing.DrawnAirport.{DrawnAirport}
use Rattle.desk_generator.specs.declared.drawing.TheConstants.{ELEVATIONS, LEAST_ARM, ARMS, LEAST_HEIGHT, HEIGHTS}
use Rattle.desk_generator.specs.Draws.{state_of_draw, drawn, coordinate, approach}

-- ---- points

abbrev pub is_coordinate : ℤ → Bool
is_coordinate z = int_le (neg_ℤ COORDINATE_LIMIT) z && int_le z COORDINATE_LIMIT

abbrev pub is_on_grid : ℤ → ℤ → Bool
is_on_grid x y = is_coordinate x && is_coordinate y

-- the result of the test as the condition of a point
pub grid_of_test : (x y : ℤ) → is_on_grid x y ≡ true → OnGrid x y
grid_of_test x y h =
    let p = and_parts (is_coordinate x) (is_coordinate y) h in
    let q = and_parts (int_le (neg_ℤ COORDINATE_LIMIT) x) (int_le x COORDINATE_LIMIT) p.0 in
    let r = and_parts (int_le (neg_ℤ COORDINATE_LIMIT) y) (int_le y COORDINATE_LIMIT) p.1 in
    record { west = le_in _ _ q.0; east = le_in _ _ q.1; south = le_in _ _ r.0; north = le_in _ _ r.1 }

abbrev pub point_by : (x y : ℤ) (b : Bool) → is_on_grid x y ≡ b → Point
point_by x y true h = record { x = x; y = y; on_grid = grid_of_test x y h }
point_by x y false h = record { x = pos 0; y = pos 0; on_grid = grid_of_test (pos 0) (pos 0) refl }

-- the point of these coordinates; drawn points are always on the grid, and for coordinates off it this would be the origin
unfoldable pub point : ℤ → ℤ → Point
point x y = point_by x y (is_on_grid x y) refl

-- ---- names

-- the last digit of a number
abbrev pub digit : ℕ → ℕ
digit n = 48 + n % 10

-- the letter G and the number in four digits
abbrev pub airport_name : ℕ → List ℕ
airport_name i = 71 ∷ digit (i / 1000) ∷ digit (i / 100) ∷ digit (i / 10) ∷ digit i ∷ []

-- ---- airports and structures, by the draws after the number of a source

-- a runway through a point from west to east, with its ends at these distances; nothing is planned
abbrev pub runway_end : ℤ → ℤ → ℤ → ApproachKind → RunwayEnd
runway_end x y z kind = record { at = point x y; z = z; kind = kind; planned = None }

abbrev pub runway : ℤ → ℤ → ℤ → ℤ → ℤ → ApproachKind → ApproachKind → Runway
runway x y z west east kind1 kind2 =
    record { name = codes "09/27"; utility = false; hard = true; end1 = runway_end (x -ℤ west) y z kind1; end2 = runway_end (x +ℤ east) y z kind2 }

-- a length of at least this
abbrev pub at_least : ℤ → ℕ → ℕ → ℤ
at_least least n s = least +ℤ pos (drawn n s)

-- the airport of this number, by seven draws: both coordinates, the elevation, the distances of the runway's ends, and their approaches
unfoldable pub airport : ℕ → ℕ → DrawnAirport
airport i s =
    record {
      id = airport_name i;
      at = point (coordinate (state_of_draw 1 s)) (coordinate (state_of_draw 2 s));
      elevation = pos (drawn ELEVATIONS (state_of_draw 3 s));
      runway = runway (coordinate (state_of_draw 1 s)) (coordinate (state_of_draw 2 s)) (pos (drawn ELEVATIONS (state_of_draw 3 s)))
          (at_least LEAST_ARM ARMS (state_of_draw 4 s)) (at_least LEAST_ARM ARMS (state_of_draw 5 s)) (approach (state_of_draw 6 s)) (approach (state_of_draw 7 s));
    }

abbrev pub no_flags : Flags
no_flags = record { shielded = false; device = false; other_rule = false; increases = false; controlled = false; temporary = false }

-- a structure, by four draws: both coordinates, the elevation of the terrain, and its height
unfoldable pub structure : ℕ → Site
structure s =
    site (point (coordinate (state_of_draw 1 s)) (coordinate (state_of_draw 2 s))) (pos (drawn ELEVATIONS (state_of_draw 3 s)))
    (at_least LEAST_HEIGHT HEIGHTS (state_of_draw 4 s)) Object (pos 0) no_flags None
