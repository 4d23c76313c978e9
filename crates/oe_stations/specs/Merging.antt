-- For proofs alone: the findings of the stations put into one list, station by station.
use Rattle.std.specs.Prelude.{ℕ, ◌+◌, List, [], ◌∷◌, Option, Some, None, Bool, false, nat_le, if◌then◌else◌}
use Rattle.ordered_list.specs.Ordered.{found_by, put_by}
use Rattle.finding_lists.specs.declared.finding.Finding.{Finding}
use Rattle.oe_stations.specs.Order.{place_of}
use Rattle.oe_stations.specs.Ways.{of_station, way_place}
use Rattle.oe_stations.specs.declared.way_list.WayFinding.{WayFinding}
use Rattle.oe_stations.specs.contracts.place.PlaceOrd.TheImpl as places

-- what stands in the finding's place has as great an excess
abbrev pub is_covered : Finding → Option WayFinding → Bool
is_covered f None = false
is_covered f (Some w) = nat_le f.excess w.finding.excess

-- the finding of station n takes its place, unless what stands there has as great an excess
abbrev pub with_finding : ℕ → List WayFinding → Finding → List WayFinding
with_finding n list f =
    if is_covered f (found_by places.ghosts.cmp way_place (place_of f) list) then list else put_by places.ghosts.cmp way_place (of_station n f) list

abbrev pub with_findings : ℕ → List WayFinding → List Finding → List WayFinding
with_findings n list [] = list
with_findings n list (f ∷ fs) = with_findings n (with_finding n list f) fs

-- the lists of stations, the first of which is station n
abbrev pub with_lists : ℕ → List WayFinding → List (List Finding) → List WayFinding
with_lists n list [] = list
with_lists n list (fs ∷ lists) = with_lists (n + 1) (with_findings n list fs) lists
