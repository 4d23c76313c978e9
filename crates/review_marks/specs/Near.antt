-- For proofs alone: a box outside which an airfield gives no entry to a list of findings.
use Rattle.std.specs.Prelude.{◌≡◌, Bool, false, Option}
use Rattle.std.specs.Option.{option_map, option_map_or}
use Rattle.grid_exact.specs.Area.{has_point}
use Rattle.grid_exact.specs.declared.area.Area.{Area}
use Rattle.grid_exact.specs.declared.point.Point.{Point}
use Rattle.airfield_findings.specs.declared.prepared.Prepared.{Prepared}

-- there is a box, and it contains the point
abbrev pub lies_in : Option Area → Point → Bool
lies_in box x = option_map_or (λ a. has_point a x) box false

-- points outside the box are outside the inner one too
abbrev pub IsAround : Option Area → Option Area → Type 0
IsAround box inner = (x : Point) → lies_in box x ≡ false → lies_in inner x ≡ false

-- the area of an airfield, where there is one
abbrev pub area_of : Option Prepared → Option Area
area_of o = option_map (λ p. p.plot.area) o
