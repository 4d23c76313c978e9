-- The categories of airfields under 77.9(d) and 77.19.
use Rattle.std.specs.Prelude.{Bool, true, false}
use Rattle.airfields.specs.declared.category.Category.{Category}
use Rattle.airfields.specs.declared.category.Category.TheVariants.{PublicUse, PublicBuilding, MilitaryBuilding, Federal, Dod, Procedure, OtherPrivate}

-- 77.9(d) describes all categories except private airfields without an FAA-approved instrument approach procedure
abbrev pub is_described : Category → Bool
is_described PublicUse = true
is_described PublicBuilding = true
is_described MilitaryBuilding = true
is_described Federal = true
is_described Dod = true
is_described Procedure = true
is_described OtherPrivate = false

-- the categories whose runways have the civil imaginary surfaces of 77.19
abbrev pub has_civil_surfaces : Category → Bool
has_civil_surfaces PublicUse = true
has_civil_surfaces PublicBuilding = true
has_civil_surfaces MilitaryBuilding = false
has_civil_surfaces Federal = true
has_civil_surfaces Dod = false
has_civil_surfaces Procedure = true
has_civil_surfaces OtherPrivate = false

-- the military categories, in operation or under construction
abbrev pub is_military : Category → Bool
is_military PublicUse = false
is_military PublicBuilding = false
is_military MilitaryBuilding = true
is_military Federal = false
is_military Dod = true
is_military Procedure = false
is_military OtherPrivate = false
