-- The structure of a notice.
use Rattle.std.specs.Prelude.{ℕ, ℤ, pos, ◌≤ℤ◌, List, Option, Bool, true, false}
use Rattle.grid_exact.specs.declared.point.Point.{Point}
use Rattle.airfields.specs.declared.structure.StructureKind.{StructureKind}
use Rattle.airfields.specs.declared.structure.StructureKind.TheVariants.{Object, Antenna, Interstate, Road, Private, Rail, Water}
use Rattle.airfields.specs.declared.structure.Flags.{Flags}
use Rattle.airfields.specs.declared.limits.TheConstants.{ELEVATION_LEAST, ELEVATION_MOST}
use Rattle.airfields.specs.declared.structure.TheConstants.{HEIGHT_LIMIT}
use Rattle.airfields.specs.declared.filing.TheConstants.{MOBILE_LIMIT}

-- a structure: its position, the elevation of the ground there, its height above ground, its kind, the height of the highest
-- mobile object on it, its flags, and the name of the airfield that it is on
pub record Site : Type 0 where
  pub at : Point
  pub terrain : ℤ
  pub height : ℤ
  pub kind : StructureKind
  pub mobile : ℤ
  pub flags : Flags
  pub on : Option (List ℕ)

abbrev pub site : Point → ℤ → ℤ → StructureKind → ℤ → Flags → Option (List ℕ) → Site
site at terrain height kind mobile flags on =
    record { at = at; terrain = terrain; height = height; kind = kind; mobile = mobile; flags = flags; on = on }

-- the traverse ways of 77.9(c): highways and other roads, railroads, and waterways or any other way for mobile objects
abbrev pub is_traverse_way : StructureKind → Bool
is_traverse_way Object = false
is_traverse_way Antenna = false
is_traverse_way Interstate = true
is_traverse_way Road = true
is_traverse_way Private = true
is_traverse_way Rail = true
is_traverse_way Water = true

-- the greatest height of a mobile object: only private roads and waterways have one (77.9(c))
abbrev pub greatest_mobile : StructureKind → ℤ
greatest_mobile Object = pos 0
greatest_mobile Antenna = pos 0
greatest_mobile Interstate = pos 0
greatest_mobile Road = pos 0
greatest_mobile Private = MOBILE_LIMIT
greatest_mobile Rail = pos 0
greatest_mobile Water = MOBILE_LIMIT

-- the structure is within the limits of a filing
pub record IsSite (s : Site) : Type 0 where
  pub terrain_least : ELEVATION_LEAST ≤ℤ s.terrain
  pub terrain_most : s.terrain ≤ℤ ELEVATION_MOST
  pub height_least : pos 0 ≤ℤ s.height
  pub height_most : s.height ≤ℤ HEIGHT_LIMIT
  pub mobile_least : pos 0 ≤ℤ s.mobile
  pub mobile_most : s.mobile ≤ℤ greatest_mobile s.kind

-- ---- revisions

-- the elevation of the ground and the height are within the limits of a filing
pub record AreFacts (terrain height : ℤ) : Type 0 where
  pub terrain_least : ELEVATION_LEAST ≤ℤ terrain
  pub terrain_most : terrain ≤ℤ ELEVATION_MOST
  pub height_least : pos 0 ≤ℤ height
  pub height_most : height ≤ℤ HEIGHT_LIMIT

-- the structure with these new facts
abbrev pub revised_site : Site → ℤ → ℤ → Site
revised_site s terrain height = record s { terrain = terrain; height = height }
