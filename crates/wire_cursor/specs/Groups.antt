-- Groups of fields that several forms share. Lengths and coordinates are whole tenths of a foot.
use Rattle.std.specs.Prelude.{ℕ, List, [], ◌∷◌, pos, neg_ℤ}
use Rattle.std.specs.Fmt.{signed_decimal}
use Rattle.whole_number.specs.Whole.{HasNineDigits}
use Rattle.grid_exact.specs.declared.point.Point.{Point}
use Rattle.grid_exact.specs.declared.point.TheConstants.{COORDINATE_LIMIT}
use Rattle.airfields.specs.Sites.{Site, IsSite}
use Rattle.airfields.specs.declared.limits.TheConstants.{ELEVATION_LEAST, ELEVATION_MOST}
use Rattle.airfields.specs.declared.runway.RunwayEnd.{RunwayEnd}
use Rattle.airfields.specs.declared.structure.TheConstants.{HEIGHT_LIMIT}
use Rattle.wire_values.specs.Words.{approaches_text, kind_word, flags_text, name_text, IsAirfieldName}
use Rattle.wire_values.specs.Wanted.{Wanted, Between, any_number, ApproachesWanted, KindWanted, MobileWanted, FlagsWanted, AirfieldWanted}
use Rattle.wire_cursor.specs.Shape.{Place, Took}

-- a coordinate of the grid
abbrev pub coordinate : Wanted
coordinate = Between (neg_ℤ COORDINATE_LIMIT) COORDINATE_LIMIT

-- a point of the grid
abbrev pub point_shape : List Wanted
point_shape = coordinate ∷ coordinate ∷ []

abbrev pub point_fields : Point → List (List ℕ)
point_fields p = signed_decimal p.x ∷ signed_decimal p.y ∷ []

-- an end of a runway: its point, its elevation, and its approach with the planned one
abbrev pub end_shape : List Wanted
end_shape = coordinate ∷ coordinate ∷ any_number ∷ ApproachesWanted ∷ []

abbrev pub end_fields : RunwayEnd → List (List ℕ)
end_fields e = signed_decimal e.at.x ∷ signed_decimal e.at.y ∷ signed_decimal e.z ∷ approaches_text e.kind e.planned ∷ []

-- the elevation of the ground at a structure
abbrev pub ground_wanted : Wanted
ground_wanted = Between ELEVATION_LEAST ELEVATION_MOST

-- the height of a structure above the ground
abbrev pub height_wanted : Wanted
height_wanted = Between (pos 0) HEIGHT_LIMIT

-- a structure: its point, the elevation of the terrain, its height, kind, mobile object and flags, and the airfield that it is on
abbrev pub site_shape : List Wanted
site_shape = coordinate ∷ coordinate ∷ ground_wanted ∷ height_wanted
    ∷ KindWanted ∷ MobileWanted ∷ FlagsWanted ∷ AirfieldWanted ∷ []

-- the eight fields of a structure
abbrev pub site_fields : Site → List (List ℕ)
site_fields s = signed_decimal s.at.x ∷ signed_decimal s.at.y ∷ signed_decimal s.terrain ∷ signed_decimal s.height
    ∷ kind_word s.kind ∷ signed_decimal s.mobile ∷ flags_text s.flags ∷ name_text s.on ∷ []

-- a structure that a record can spell
abbrev pub IsValidSite : Site → Type 0
IsValidSite site = IsSite site × IsAirfieldName site.on

-- ---- for proofs alone: the results of the readers of the groups

-- the reader took an end of a runway
pub record TookEnd (e : RunwayEnd) (old new : Place) : Type 0 where
  pub took : Took end_shape (end_fields e) old new
  pub short : HasNineDigits e.z

-- the reader took a structure
pub record TookSite (s : Site) (old new : Place) : Type 0 where
  pub took : Took site_shape (site_fields s) old new
  pub valid : IsValidSite s
