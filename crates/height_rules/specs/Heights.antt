-- The heights of a structure above the ground for the rules, and its tops.
use Rattle.std.specs.Prelude.{ℤ, pos, ◌+ℤ◌, ◌≡◌, ◌≤ℤ◌, if◌then◌else◌}
use Rattle.std.specs.Int.{int_max}
use Rattle.grid_exact.specs.Level.{IsLevel}
use Rattle.airfields.specs.Sites.{Site}
use Rattle.airfields.specs.declared.structure.StructureKind.TheVariants as kinds
use Rattle.airfields.specs.declared.structure.StructureKind.{StructureKind}
use Rattle.height_rules.specs.declared.heights.TheConstants.{INTERSTATE_RAISED, ROAD_RAISED, PRIVATE_RAISED, RAIL_RAISED, TOP_MOST}

-- the height added to a traverse way for its traffic (77.9(c)): 17 feet for an Interstate highway, 15 for another public roadway, the
-- greater of 10 feet and the highest mobile object for a private road, 23 for a railroad, and the highest mobile object for a waterway;
-- nothing is added to other structures
abbrev pub top_raised_by : StructureKind → ℤ → ℤ
top_raised_by kinds.Object mobile = pos 0
top_raised_by kinds.Antenna mobile = pos 0
top_raised_by kinds.Interstate mobile = INTERSTATE_RAISED
top_raised_by kinds.Road mobile = ROAD_RAISED
top_raised_by kinds.Private mobile = int_max PRIVATE_RAISED mobile
top_raised_by kinds.Rail mobile = RAIL_RAISED
top_raised_by kinds.Water mobile = mobile

abbrev pub allowance_of : Site → ℤ
allowance_of s = top_raised_by s.kind s.mobile

-- the top for the notice rules of 77.9
abbrev pub notice_top : Site → ℤ
notice_top s = s.terrain +ℤ (s.height +ℤ allowance_of s)

-- the top for the standards of 77.17(a): a traverse way on or near an airport with an operative ground traffic control service has no
-- allowance (77.17(b))
abbrev pub standards_top : Site → ℤ
standards_top s = if s.flags.controlled then s.terrain +ℤ s.height else notice_top s

-- these levels are the tops of the structure: at or above the ground, and at most the highest possible top
pub record HasTops (s : Site) (standards notice : ℤ) : Type 0 where
  pub standards_is : standards ≡ standards_top s
  pub standards_level : IsLevel standards
  pub standards_low : s.terrain ≤ℤ standards
  pub standards_high : standards ≤ℤ TOP_MOST
  pub notice_is : notice ≡ notice_top s
  pub notice_level : IsLevel notice
  pub notice_low : s.terrain ≤ℤ notice
  pub notice_high : notice ≤ℤ TOP_MOST
