-- How high a structure may be without a standard that it exceeds and without a notice rule that it meets.
use Rattle.std.specs.Prelude.{◌≡◌, ℤ, pos, ◌+ℤ◌, ◌≤ℤ◌, ◌<ℤ◌, List, [], Option, Some, None}
use Rattle.airfields.specs.Sites.{Site}
use Rattle.airfields.specs.declared.airfield.Airfield.{Airfield}
use Rattle.finding_lists.specs.declared.finding.Finding.{Finding}
use Rattle.oe_findings.specs.List.{findings_of}

-- the structure with another height above the ground
abbrev pub at_height : Site → ℤ → Site
at_height s height =
    record { at = s.at; terrain = s.terrain; height = height; kind = s.kind; mobile = s.mobile; flags = s.flags; on = s.on }

-- with this height it has no finding: no standard of 77.17, 77.19 or 77.23, and no notice rule of 77.9 that 77.9(e) leaves
abbrev pub IsClear : List Airfield → Site → ℤ → Type 0
IsClear airfields site height = findings_of airfields (at_height site height) ≡ []

-- the greatest height without a finding
pub record IsCeiling (airfields : List Airfield) (site : Site) (height : ℤ) : Type 0 where
  pub not_negative : pos 0 ≤ℤ height
  pub clear : IsClear airfields site height
  pub greatest : (higher : ℤ) → height <ℤ higher → ¬ IsClear airfields site higher

-- the ceiling, or none where there is a finding at every height, even at height 0
abbrev pub IsCeilingOf : List Airfield → Site → Option ℤ → Type 0
IsCeilingOf airfields site None = (height : ℤ) → pos 0 ≤ℤ height → ¬ IsClear airfields site height
IsCeilingOf airfields site (Some height) = IsCeiling airfields site height

-- the lowest height with a finding: a tenth of a foot above the ceiling, or 0 where there is none
abbrev pub height_above : Option ℤ → ℤ
height_above None = pos 0
height_above (Some height) = height +ℤ pos 1

-- the list of findings at that height
pub record IsBinding (airfields : List Airfield) (site : Site) (list : List Finding) : Type 0 where
  pub ceiling : Option ℤ
  pub is_ceiling : IsCeilingOf airfields site ceiling
  pub found : list ≡ findings_of airfields (at_height site (height_above ceiling))
