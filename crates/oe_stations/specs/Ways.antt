-- The findings of a way: of each rule and surface the greatest excess of all stations, and the first station that has it.
use Rattle.std.specs.Prelude.{◌≡◌, ◌≢◌, ◌≤◌, ◌<◌, ◌+◌, ℕ, List, [], ◌∷◌, ◌⊎◌, Some, None, map}
use Rattle.std.specs.List.{Contains}
use Rattle.airfields.specs.Sites.{Site}
use Rattle.airfields.specs.declared.airfield.Airfield.{Airfield}
use Rattle.ordered_list.specs.Ordered.{Rises, found_by}
use Rattle.finding_lists.specs.declared.finding.Finding.{Finding}
use Rattle.oe_findings.specs.List.{findings_of}
use Rattle.oe_findings.specs.Nearness.{AreNear}
use Rattle.oe_stations.specs.Order.{place_of}
use Rattle.oe_stations.specs.declared.place.Place.{Place}
use Rattle.oe_stations.specs.declared.way_list.WayFinding.{WayFinding}
use Rattle.oe_stations.specs.contracts.place.PlaceOrd.TheImpl as places

-- the list of station k has the finding, where the first of these lists is that of station n
abbrev pub HasFrom : ℕ → List (List Finding) → ℕ → Finding → Type 0
HasFrom n [] k f = ⊥
HasFrom n (list ∷ lists) k f = ((k ≡ n) × Contains list f) ⊎ HasFrom (n + 1) lists k f

-- they are under one rule and of one surface or slope
abbrev pub AreOfOne : Finding → Finding → Type 0
AreOfOne f g = (f.rule ≡ g.rule) × (f.key ≡ g.key)

abbrev pub way_place : WayFinding → Place
way_place w = place_of w.finding

-- a finding of station n
abbrev pub of_station : ℕ → Finding → WayFinding
of_station n f = record { finding = f; station = n }

-- a station has the finding; no station has a greater excess under its rule and surface, and none before it has as great a one
pub record IsGreatest (Has : ℕ → Finding → Type 0) (w : WayFinding) : Type 0 where
  pub stands : Has w.station w.finding
  pub most : (k : ℕ) (f : Finding) → Has k f → AreOfOne f w.finding → f.excess ≤ w.finding.excess
  pub first : (k : ℕ) (f : Finding) → Has k f → AreOfOne f w.finding → k < w.station → f.excess < w.finding.excess

-- the list is in order, with one entry for each rule and surface that a station has, and no other
pub record IsWayListOf (Has : ℕ → Finding → Type 0) (list : List WayFinding) : Type 0 where
  pub rises : Rises places.ghosts.cmp way_place list
  pub greatest : (p : Place) (w : WayFinding) → found_by places.ghosts.cmp way_place p list ≡ Some w → IsGreatest Has w
  pub complete : (k : ℕ) (f : Finding) → Has k f → found_by places.ghosts.cmp way_place (place_of f) list ≢ None

abbrev pub IsWayList : List Airfield → List Site → List WayFinding → Type 0
IsWayList airfields way list = IsWayListOf (HasFrom 1 (map (findings_of airfields) way)) list

-- so many surfaces are near the stations, counted at each of them
abbrev pub AreNearWay : List Airfield → List Site → ℕ → Type 0
AreNearWay airfields [] n = n ≡ 0
AreNearWay airfields (site ∷ way) n = (here : ℕ) × (rest : ℕ) × AreNear airfields site.at here × AreNearWay airfields way rest × (n ≡ here + rest)
