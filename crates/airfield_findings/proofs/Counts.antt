-- How many findings one airfield gives at most.
use Rattle.std.proofs.Common.{arith, ℕ, suc, ℤ, ◌≤◌, ◌+◌, ◌*◌, List, [], ◌∷◌, ◌++◌, length, Option, Some, None, Bool, true, false, if◌then◌else◌}
use Rattle.std.specs.List.{All, flat_map}
use Rattle.std.specs.Option.{option_map, option_to_list}
use Rattle.std.proofs.lemmas.List.{length-append}
use Rattle.grid_exact.specs.declared.cap.Cap.{Cap}
use Rattle.grid_exact.specs.declared.point.Point.{Point}
use Rattle.airfields.specs.Airfields.{IsHeld}
use Rattle.airfields.specs.Categories.{has_civil_surfaces}
use Rattle.airfields.specs.declared.runways.TheConstants.{MOST_RUNWAYS}
use Rattle.airfields.specs.Sites.{Site}
use Rattle.airfields.specs.declared.airfield.Airport.{Airport}
use Rattle.airfields.specs.declared.airfield.Heliport.{Heliport}
use Rattle.airfields.specs.declared.airfield.Airfield.{Airfield}
use Rattle.airfields.specs.declared.airfield.Airfield.TheVariants.{Airport as AnAirport, Heliport as AHeliport}
use Rattle.airfields.specs.declared.runway.Runway.{Runway}
use Rattle.height_rules.specs.Heights.{notice_top, standards_top}
use Rattle.height_rules.specs.NearAirport.{near_excess}
use Rattle.horizontal_hull.specs.Arcs.{dome_of}
use Rattle.horizontal_hull.specs.Within.{horizontal_excess, conical_excess, cap_of}
use Rattle.imaginary_surfaces.specs.Strips.{primary_excess, approach_excess, primary_transition_excess, approach_transition_excess}
use Rattle.runway_lines.specs.declared.end.End.TheVariants as ends
use Rattle.heliport_surfaces.specs.Pads.{pad_primary_excess, pad_approach_excess, pad_transition_excess, pad_notice_excess}
use Rattle.heliport_surfaces.specs.declared.parts.PadEnd.TheVariants as pad_ends
use Rattle.heliport_surfaces.specs.declared.parts.Beside.TheVariants as sides
use Rattle.runway_notice.specs.Notices.{notice_slope}
use Rattle.airfield_findings.specs.Entries.{entries, field_key, runway_key, of_runway, of_runways, of_surfaces, of_pad, of_airfield, rule_b3, slope_finding, slope_entries}
use Rattle.finding_lists.specs.declared.finding.SurfaceKey.{SurfaceKey}
use Rattle.finding_lists.specs.declared.finding.Rule.{Rule}
use Rattle.finding_lists.specs.declared.finding.Rule.TheVariants as rules

pub one : (rule : Rule) (key : SurfaceKey) (x : Option ℕ) → length (entries rule key x) ≤ 1
one rule key None = omega arith
one rule key (Some e) = omega arith

pub two_parts : {A : Type 0} (xs ys : List A) (m n : ℕ) → length xs ≤ m → length ys ≤ n → length (xs ++ ys) ≤ m + n
two_parts xs ys m n a b = omega (arith, length-append xs ys, a, b)

pub parts : {X A : Type 0} (P : X → Type 0) (f : X → List A) (n : ℕ) → ((x : X) → P x → length (f x) ≤ n) → (xs : List X) → All P xs → length (flat_map f xs) ≤ length xs * n
parts P f n most [] all = omega arith
parts P f n most (x ∷ xs) all =
    let tail = parts P f n most xs (λ k d l. all (suc k) d (omega (arith, l))) in
    omega (arith, length-append (f x) (flat_map f xs), most x (all 0 x (omega arith)), tail)

pub any_parts : {X A : Type 0} (f : X → List A) (n : ℕ) → ((x : X) → length (f x) ≤ n) → (xs : List X) → length (flat_map f xs) ≤ length xs * n
any_parts f n most [] = omega arith
any_parts f n most (x ∷ xs) = omega (arith, length-append (f x) (flat_map f xs), most x, any_parts f n most xs)

six_parts : {A : Type 0} (a b d e f g : List A) → length a ≤ 1 → length b ≤ 1 → length d ≤ 1 → length e ≤ 1 → length f ≤ 1 → length g ≤ 1 → length (a ++ b ++ d ++ e ++ f ++ g) ≤ 6
six_parts a b d e f g h1 h2 h3 h4 h5 h6 =
    two_parts (a ++ b ++ d ++ e ++ f) g 5 1 (two_parts (a ++ b ++ d ++ e) f 4 1 (two_parts (a ++ b ++ d) e 3 1 (two_parts (a ++ b) d 2 1 (two_parts a b 1 1 h1 h2) h3) h4) h5) h6

of_one_runway : (id : List ℕ) (at : Point) (top : ℤ) (cap : Cap) (r : Runway) → length (of_runway id at top cap r) ≤ 6
of_one_runway id at top cap r =
    let k0 = runway_key id r.name 0 in
    let k1 = runway_key id r.name 1 in
    let k2 = runway_key id r.name 2 in
    let x1 = primary_excess r at top in
    let x2 = approach_excess r ends.One at top in
    let x3 = approach_excess r ends.Two at top in
    let x4 = primary_transition_excess r at cap top in
    let x5 = approach_transition_excess r ends.One at cap top in
    let x6 = approach_transition_excess r ends.Two at cap top in
    six_parts (entries rules.Primary k0 x1) (entries rules.Approach k1 x2) (entries rules.Approach k2 x3) (entries rules.Transition k0 x4) (entries rules.Transition k1 x5) (entries rules.Transition k2 x6)
    (one rules.Primary k0 x1) (one rules.Approach k1 x2) (one rules.Approach k2 x3) (one rules.Transition k0 x4) (one rules.Transition k1 x5) (one rules.Transition k2 x6)

-- a list that is given, or none
pub either : {A : Type 0} (b : Bool) (xs : List A) (n : ℕ) → length xs ≤ n → length (if b then xs else []) ≤ n
either true xs n h = h
either false xs n h = omega arith

of_all_runways : (at : Point) (top : ℤ) (a : Airport) → length a.runways ≤ MOST_RUNWAYS → length (of_runways at top a) ≤ 96
of_all_runways at top a few =
    let entries_of = of_runway a.id at top (cap_of (dome_of a) at) in
    let all = any_parts entries_of 6 (of_one_runway a.id at top (cap_of (dome_of a) at)) a.runways in
    either (has_civil_surfaces a.category) (flat_map entries_of a.runways) 96 (omega (arith, all, few))

of_all_surfaces : (at : Point) (top : ℤ) (a : Airport) → length a.runways ≤ MOST_RUNWAYS → length (of_surfaces at top a) ≤ 98
of_all_surfaces at top a few =
    let k = field_key a.id 0 in
    let x1 = horizontal_excess (dome_of a) at top in
    let x2 = conical_excess (dome_of a) at top in
    two_parts (entries rules.Horizontal k x1 ++ entries rules.Conical k x2) (of_runways at top a) 2 96
    (two_parts (entries rules.Horizontal k x1) (entries rules.Conical k x2) 1 1 (one rules.Horizontal k x1) (one rules.Conical k x2))
    (of_all_runways at top a few)

of_one_pad : (at : Point) (top : ℤ) (h : Heliport) → length (of_pad at top h) ≤ 6
of_one_pad at top h =
    let k0 = field_key h.id 0 in
    let k1 = field_key h.id 1 in
    let k2 = field_key h.id 2 in
    let x1 = pad_primary_excess h at top in
    let x2 = pad_approach_excess h pad_ends.One at top in
    let x3 = pad_approach_excess h pad_ends.Two at top in
    let x4 = pad_transition_excess h sides.Primary at top in
    let x5 = pad_transition_excess h sides.ApproachOne at top in
    let x6 = pad_transition_excess h sides.ApproachTwo at top in
    six_parts (entries rules.PadPrimary k0 x1) (entries rules.PadApproach k1 x2) (entries rules.PadApproach k2 x3) (entries rules.PadTransition k0 x4) (entries rules.PadTransition k1 x5) (entries rules.PadTransition k2 x6)
    (one rules.PadPrimary k0 x1) (one rules.PadApproach k1 x2) (one rules.PadApproach k2 x3) (one rules.PadTransition k0 x4) (one rules.PadTransition k1 x5) (one rules.PadTransition k2 x6)

pub at_most_one : {A X : Type 0} (f : X → A) (o : Option X) → length (option_to_list (option_map f o)) ≤ 1
at_most_one f None = omega arith
at_most_one f (Some x) = omega arith

pub of_one_airfield : (site : Site) (f : Airfield) → IsHeld f → length (of_airfield site f) ≤ 99
of_one_airfield site (AnAirport a) held =
    let top = standards_top site in
    two_parts (entries rules.Near (field_key a.id 0) (near_excess a site)) (of_surfaces site.at top a) 1 98
    (one rules.Near (field_key a.id 0) (near_excess a site)) (of_all_surfaces site.at top a held.number)
of_one_airfield site (AHeliport h) held =
    omega (arith, of_one_pad site.at (standards_top site) h)

pub one_slope : (site : Site) (f : Airfield) → length (slope_entries site f) ≤ 1
one_slope site (AnAirport a) = at_most_one (slope_finding site a.id) (notice_slope a site.at (notice_top site))
one_slope site (AHeliport h) =
    one (rule_b3 site) (field_key h.id 0) (pad_notice_excess h site.at (notice_top site))
