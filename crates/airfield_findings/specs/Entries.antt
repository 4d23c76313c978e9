-- The entries of one airfield in the list of findings of a structure.
use Rattle.std.specs.Prelude.{ℕ, ℤ, List, [], ◌++◌, Option, Some, None, option_map, if◌then◌else◌}
use Rattle.std.specs.List.{flat_map}
use Rattle.std.specs.Option.{option_to_list}
use Rattle.grid_exact.specs.declared.point.Point.{Point}
use Rattle.grid_exact.specs.declared.cap.Cap.{Cap}
use Rattle.airfields.specs.Categories.{has_civil_surfaces}
use Rattle.airfields.specs.Sites.{Site, is_traverse_way}
use Rattle.airfields.specs.declared.airfield.Airport.{Airport}
use Rattle.airfields.specs.declared.airfield.Heliport.{Heliport}
use Rattle.airfields.specs.declared.runway.Runway.{Runway}
use Rattle.airfields.specs.declared.airfield.Airfield.{Airfield}
use Rattle.airfields.specs.declared.airfield.Airfield.TheVariants.{Airport as AnAirport, Heliport as AHeliport}
use Rattle.height_rules.specs.Heights.{notice_top, standards_top}
use Rattle.height_rules.specs.NearAirport.{near_excess}
use Rattle.horizontal_hull.specs.Arcs.{dome_of}
use Rattle.horizontal_hull.specs.Within.{horizontal_excess, conical_excess, cap_of}
use Rattle.imaginary_surfaces.specs.Strips.{primary_excess, approach_excess, primary_transition_excess, approach_transition_excess}
use Rattle.runway_lines.specs.declared.end.End.TheVariants as ends
use Rattle.heliport_surfaces.specs.Pads.{pad_primary_excess, pad_approach_excess, pad_transition_excess, pad_notice_excess}
use Rattle.heliport_surfaces.specs.declared.parts.PadEnd.TheVariants as pad_ends
use Rattle.heliport_surfaces.specs.declared.parts.Beside.TheVariants as sides
use Rattle.runway_notice.specs.Notices.{notice_slope}
use Rattle.runway_notice.specs.declared.slope.Slope.{Slope}
use Rattle.runway_notice.specs.declared.slope.Sub.{Sub}
use Rattle.runway_notice.specs.declared.slope.Sub.TheVariants.{B1, B2}
use Rattle.finding_lists.specs.declared.finding.Finding.{Finding}
use Rattle.finding_lists.specs.declared.finding.SurfaceKey.{SurfaceKey}
use Rattle.finding_lists.specs.declared.finding.Rule.{Rule}
use Rattle.finding_lists.specs.declared.finding.Rule.TheVariants as rules

-- the key of a rule without an airfield
abbrev pub no_key : SurfaceKey
no_key = record { field = None; runway = None; part = 0 }

-- the key of a surface of an airfield, with its end or side, or 0 where it has none
abbrev pub field_key : List ℕ → ℕ → SurfaceKey
field_key id part = record { field = Some id; runway = None; part = part }

-- the key of a surface of a runway
abbrev pub runway_key : List ℕ → List ℕ → ℕ → SurfaceKey
runway_key id name part = record { field = Some id; runway = Some name; part = part }

-- the entry of a rule, where its surface or limit is exceeded
abbrev pub entries : Rule → SurfaceKey → Option ℕ → List Finding
entries rule key excess = option_to_list (option_map (λ e. record { rule = rule; key = key; excess = e }) excess)

-- ---- standards

-- the entries of one runway of the airport id, for a top at a point where the horizontal and conical surfaces end at the cap: its
-- primary surface of 77.19(c), the approach surfaces of 77.19(d) at both ends, and the transitional surfaces of 77.19(e) beside them
abbrev pub of_runway : List ℕ → Point → ℤ → Cap → Runway → List Finding
of_runway id at top cap r =
    entries rules.Primary (runway_key id r.name 0) (primary_excess r at top)
    ++ entries rules.Approach (runway_key id r.name 1) (approach_excess r ends.One at top)
    ++ entries rules.Approach (runway_key id r.name 2) (approach_excess r ends.Two at top)
    ++ entries rules.Transition (runway_key id r.name 0) (primary_transition_excess r at cap top)
    ++ entries rules.Transition (runway_key id r.name 1) (approach_transition_excess r ends.One at cap top)
    ++ entries rules.Transition (runway_key id r.name 2) (approach_transition_excess r ends.Two at cap top)

-- the entries of the surfaces of an airport's runways, in order of their names; only civil airports have surfaces of 77.19
abbrev pub of_runways : Point → ℤ → Airport → List Finding
of_runways at top a = if has_civil_surfaces a.category then flat_map (of_runway a.id at top (cap_of (dome_of a) at)) a.runways else []

-- the entries of the surfaces of 77.19: horizontal, conical, then those of each runway
abbrev pub of_surfaces : Point → ℤ → Airport → List Finding
of_surfaces at top a =
    entries rules.Horizontal (field_key a.id 0) (horizontal_excess (dome_of a) at top)
    ++ entries rules.Conical (field_key a.id 0) (conical_excess (dome_of a) at top)
    ++ of_runways at top a

-- the entries of the surfaces of a heliport, 77.23: primary, approach, and transitional
abbrev pub of_pad : Point → ℤ → Heliport → List Finding
of_pad at top h =
    entries rules.PadPrimary (field_key h.id 0) (pad_primary_excess h at top)
    ++ entries rules.PadApproach (field_key h.id 1) (pad_approach_excess h pad_ends.One at top)
    ++ entries rules.PadApproach (field_key h.id 2) (pad_approach_excess h pad_ends.Two at top)
    ++ entries rules.PadTransition (field_key h.id 0) (pad_transition_excess h sides.Primary at top)
    ++ entries rules.PadTransition (field_key h.id 1) (pad_transition_excess h sides.ApproachOne at top)
    ++ entries rules.PadTransition (field_key h.id 2) (pad_transition_excess h sides.ApproachTwo at top)

-- the standards of one airfield: the limit near an airport of 77.17(a)(2), and its imaginary surfaces
abbrev pub of_airfield : Site → Airfield → List Finding
of_airfield site (AnAirport a) = entries rules.Near (field_key a.id 0) (near_excess a site) ++ of_surfaces site.at (standards_top site) a
of_airfield site (AHeliport h) = of_pad site.at (standards_top site) h

-- ---- notice

-- the notice rule for a structure; a traverse way has it under 77.9(c)
abbrev pub rule_b : Site → Sub → Rule
rule_b site B1 = if is_traverse_way site.kind then rules.WayB1 else rules.NoticeB1
rule_b site B2 = if is_traverse_way site.kind then rules.WayB2 else rules.NoticeB2

abbrev pub rule_b3 : Site → Rule
rule_b3 site = if is_traverse_way site.kind then rules.WayB3 else rules.NoticeB3

-- the entry of a slope of 77.9(b)(1) or (2), over the nearest runway
abbrev pub slope_finding : Site → List ℕ → Slope → Finding
slope_finding site id s = record { rule = rule_b site s.sub; key = runway_key id s.runway 0; excess = s.excess }

-- the notice slope of one airfield, 77.9(b)
abbrev pub slope_entries : Site → Airfield → List Finding
slope_entries site (AnAirport a) = option_to_list (option_map (slope_finding site a.id) (notice_slope a site.at (notice_top site)))
slope_entries site (AHeliport h) = entries (rule_b3 site) (field_key h.id 0) (pad_notice_excess h site.at (notice_top site))
