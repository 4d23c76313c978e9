-- Each entry of a list of findings is told whole.
use Rattle.std.proofs.Common.{arith, ℕ, ℤ, refl, List, [], ◌∷◌, ◌++◌, Option, Some, None, Bool, true, false, if◌then◌else◌}
use Rattle.std.specs.Prelude.{IfSome, option_map}
use Rattle.std.specs.List.{All, flat_map}
use Rattle.std.specs.Option.{option_to_list}
use Rattle.std.proofs.lemmas.List.Elements.{All-nil, All-cons, All-append, All-head, All-tail}
use Rattle.grid_exact.specs.declared.cap.Cap.{Cap}
use Rattle.grid_exact.specs.declared.point.Point.{Point}
use Rattle.airfields.specs.Names.{IsFieldId, IsRunwayName}
use Rattle.airfields.specs.Categories.{has_civil_surfaces}
use Rattle.airfields.specs.Sites.{Site, is_traverse_way}
use Rattle.airfields.specs.declared.airfield.Airport.{Airport}
use Rattle.airfields.specs.declared.airfield.Heliport.{Heliport}
use Rattle.airfields.specs.declared.airfield.Airfield.{Airfield}
use Rattle.airfields.specs.declared.airfield.Airfield.TheVariants.{Airport as AnAirport, Heliport as AHeliport}
use Rattle.airfields.specs.declared.runway.Runway.{Runway}
use Rattle.desk_tables.specs.Names.{HasName, IsNamed}
use Rattle.height_rules.specs.Heights.{notice_top, standards_top}
use Rattle.height_rules.specs.NearAirport.{near_excess}
use Rattle.horizontal_hull.specs.Arcs.{dome_of}
use Rattle.horizontal_hull.specs.Within.{horizontal_excess, conical_excess, cap_of}
use Rattle.imaginary_surfaces.specs.Strips.{primary_excess, approach_excess, primary_transition_excess, approach_transition_excess}
use Rattle.runway_lines.specs.declared.end.End.TheVariants as ends
use Rattle.heliport_surfaces.specs.Pads.{pad_primary_excess, pad_approach_excess, pad_transition_excess, pad_notice_excess}
use Rattle.heliport_surfaces.specs.declared.parts.PadEnd.TheVariants as pad_ends
use Rattle.heliport_surfaces.specs.declared.parts.Beside.TheVariants as sides
use Rattle.runway_notice.specs.Notices.{notice_slope}
use Rattle.runway_notice.specs.declared.slope.Slope.{Slope}
use Rattle.runway_notice.specs.declared.slope.Sub.{Sub}
use Rattle.runway_notice.specs.declared.slope.Sub.TheVariants.{B1, B2}
use Rattle.airfield_findings.specs.Entries.{entries, field_key, runway_key, of_runway, of_runways, of_surfaces, of_pad, of_airfield}
use Rattle.airfield_findings.specs.Entries.{rule_b, rule_b3, slope_finding, slope_entries}
use Rattle.finding_lists.specs.declared.finding.Finding.{Finding}
use Rattle.finding_lists.specs.declared.finding.SurfaceKey.{SurfaceKey}
use Rattle.finding_lists.specs.declared.finding.Rule.{Rule}
use Rattle.finding_lists.specs.declared.finding.Rule.TheVariants as rules
use Rattle.row_cases.specs.Entries.{extent_of, HasExtent, IsEntry, IsLevel}
use Rattle.desk_tables.proofs.Excesses.{IsSmall, near_small, horizontal_small, conical_small}
use Rattle.desk_tables.proofs.Excesses.{primary_small, approach_small, primary_transition_small, approach_transition_small}
use Rattle.desk_tables.proofs.PadExcesses.{pad_primary_small, pad_approach_small, pad_transition_small, pad_notice_small}
use Rattle.desk_tables.proofs.SlopeFacts.{IsToldSlope, notice_slope_told}

-- a key has what its rule's keys have, and the rule is one by which a height is exceeded
abbrev pub IsPlaced : Rule → SurfaceKey → Type 0
IsPlaced rule key = HasExtent (extent_of rule) key × ((e : ℕ) → IsLevel rule e)

-- ---- lists

pub one_told : (rule : Rule) (key : SurfaceKey) (x : Option ℕ) → IsPlaced rule key → IsSmall x → All IsEntry (entries rule key x)
one_told rule key None p small = All-nil IsEntry
one_told rule key (Some e) p small =
    All-cons IsEntry (record { rule = rule; key = key; excess = e }) [] (record { place = p.0; level = p.1 e; small = small }) (All-nil IsEntry)

pub each_told : {X A : Type 0} (Q : X → Type 0) (P : A → Type 0) (f : X → List A) → ((x : X) → Q x → All P (f x)) → (xs : List X) → All Q xs
    → All P (flat_map f xs)
each_told Q P f one [] all = All-nil P
each_told Q P f one (x ∷ xs) all = All-append P (f x) (flat_map f xs) (one x (All-head Q x xs all)) (each_told Q P f one xs (All-tail Q x xs all))

pub given_told : {A : Type 0} (P : A → Type 0) (b : Bool) (xs : List A) → All P xs → All P (if b then xs else [])
given_told P true xs h = h
given_told P false xs h = All-nil P

pub either_placed : (b : Bool) (one two : Rule) (key : SurfaceKey) → IsPlaced one key → IsPlaced two key → IsPlaced (if b then one else two) key
either_placed true one two key h k = h
either_placed false one two key h k = k

six_told : (a b d e f g : List Finding) → All IsEntry a → All IsEntry b → All IsEntry d → All IsEntry e → All IsEntry f → All IsEntry g
    → All IsEntry (a ++ b ++ d ++ e ++ f ++ g)
six_told a b d e f g h1 h2 h3 h4 h5 h6 =
    let three = All-append IsEntry (a ++ b) d (All-append IsEntry a b h1 h2) h3 in
    let five = All-append IsEntry (a ++ b ++ d ++ e) f (All-append IsEntry (a ++ b ++ d) e three h4) h5 in
    All-append IsEntry (a ++ b ++ d ++ e ++ f) g five h6

-- ---- the standards of one airfield

runway_told : (id : List ℕ) (at : Point) (top : ℤ) (cap : Cap) → IsFieldId id → (r : Runway) → HasName r → All IsEntry (of_runway id at top cap r)
runway_told id at top cap named r strip =
    let k0 = runway_key id r.name 0 in
    let k1 = runway_key id r.name 1 in
    let k2 = runway_key id r.name 2 in
    let x1 = primary_excess r at top in
    let x2 = approach_excess r ends.One at top in
    let x3 = approach_excess r ends.Two at top in
    let x4 = primary_transition_excess r at cap top in
    let x5 = approach_transition_excess r ends.One at cap top in
    let x6 = approach_transition_excess r ends.Two at cap top in
    six_told (entries rules.Primary k0 x1) (entries rules.Approach k1 x2) (entries rules.Approach k2 x3)
    (entries rules.Transition k0 x4) (entries rules.Transition k1 x5) (entries rules.Transition k2 x6)
    (one_told rules.Primary k0 x1 ((named, strip, refl), λ e. tt) (primary_small r at top))
    (one_told rules.Approach k1 x2 ((named, strip, (omega arith, omega arith)), λ e. tt) (approach_small r ends.One at top))
    (one_told rules.Approach k2 x3 ((named, strip, (omega arith, omega arith)), λ e. tt) (approach_small r ends.Two at top))
    (one_told rules.Transition k0 x4 ((named, strip, (omega arith, omega arith)), λ e. tt) (primary_transition_small r at cap top))
    (one_told rules.Transition k1 x5 ((named, strip, (omega arith, omega arith)), λ e. tt) (approach_transition_small r ends.One at cap top))
    (one_told rules.Transition k2 x6 ((named, strip, (omega arith, omega arith)), λ e. tt) (approach_transition_small r ends.Two at cap top))

runways_told : (at : Point) (top : ℤ) (a : Airport) → IsNamed (AnAirport a) → All IsEntry (of_runways at top a)
runways_told at top a named =
    let cap = cap_of (dome_of a) at in
    given_told IsEntry (has_civil_surfaces a.category) (flat_map (of_runway a.id at top cap) a.runways)
    (each_told HasName IsEntry (of_runway a.id at top cap) (runway_told a.id at top cap named.0) a.runways named.1)

surfaces_told : (at : Point) (top : ℤ) (a : Airport) → IsNamed (AnAirport a) → All IsEntry (of_surfaces at top a)
surfaces_told at top a named =
    let k = field_key a.id 0 in
    let x1 = horizontal_excess (dome_of a) at top in
    let x2 = conical_excess (dome_of a) at top in
    All-append IsEntry (entries rules.Horizontal k x1 ++ entries rules.Conical k x2) (of_runways at top a)
    (All-append IsEntry (entries rules.Horizontal k x1) (entries rules.Conical k x2)
    (one_told rules.Horizontal k x1 ((named.0, refl, refl), λ e. tt) (horizontal_small (dome_of a) at top))
    (one_told rules.Conical k x2 ((named.0, refl, refl), λ e. tt) (conical_small (dome_of a) at top)))
    (runways_told at top a named)

pad_told : (at : Point) (top : ℤ) (h : Heliport) → IsFieldId h.id → All IsEntry (of_pad at top h)
pad_told at top h named =
    let k0 = field_key h.id 0 in
    let k1 = field_key h.id 1 in
    let k2 = field_key h.id 2 in
    let x1 = pad_primary_excess h at top in
    let x2 = pad_approach_excess h pad_ends.One at top in
    let x3 = pad_approach_excess h pad_ends.Two at top in
    let x4 = pad_transition_excess h sides.Primary at top in
    let x5 = pad_transition_excess h sides.ApproachOne at top in
    let x6 = pad_transition_excess h sides.ApproachTwo at top in
    six_told (entries rules.PadPrimary k0 x1) (entries rules.PadApproach k1 x2) (entries rules.PadApproach k2 x3)
    (entries rules.PadTransition k0 x4) (entries rules.PadTransition k1 x5) (entries rules.PadTransition k2 x6)
    (one_told rules.PadPrimary k0 x1 ((named, refl, refl), λ e. tt) (pad_primary_small h at top))
    (one_told rules.PadApproach k1 x2 ((named, refl, (omega arith, omega arith)), λ e. tt) (pad_approach_small h pad_ends.One at top))
    (one_told rules.PadApproach k2 x3 ((named, refl, (omega arith, omega arith)), λ e. tt) (pad_approach_small h pad_ends.Two at top))
    (one_told rules.PadTransition k0 x4 ((named, refl, (omega arith, omega arith)), λ e. tt) (pad_transition_small h sides.Primary at top))
    (one_told rules.PadTransition k1 x5 ((named, refl, (omega arith, omega arith)), λ e. tt) (pad_transition_small h sides.ApproachOne at top))
    (one_told rules.PadTransition k2 x6 ((named, refl, (omega arith, omega arith)), λ e. tt) (pad_transition_small h sides.ApproachTwo at top))

pub airfield_told : (site : Site) (f : Airfield) → IsNamed f → All IsEntry (of_airfield site f)
airfield_told site (AnAirport a) named =
    let x = near_excess a site in
    All-append IsEntry (entries rules.Near (field_key a.id 0) x) (of_surfaces site.at (standards_top site) a)
    (one_told rules.Near (field_key a.id 0) x ((named.0, refl, refl), λ e. tt) (near_small a site))
    (surfaces_told site.at (standards_top site) a named)
airfield_told site (AHeliport h) named = pad_told site.at (standards_top site) h named

-- ---- its notice slope

slope_placed : (site : Site) (sub : Sub) (id name : List ℕ) → IsFieldId id → IsRunwayName name → IsPlaced (rule_b site sub) (runway_key id name 0)
slope_placed site B1 id name named strip = either_placed (is_traverse_way site.kind) rules.WayB1 rules.NoticeB1 (runway_key id name 0)
    ((named, strip, refl), λ e. tt) ((named, strip, refl), λ e. tt)
slope_placed site B2 id name named strip = either_placed (is_traverse_way site.kind) rules.WayB2 rules.NoticeB2 (runway_key id name 0)
    ((named, strip, refl), λ e. tt) ((named, strip, refl), λ e. tt)

some_slope_told : (site : Site) (id : List ℕ) (o : Option Slope) → IsFieldId id → IfSome o IsToldSlope
    → All IsEntry (option_to_list (option_map (slope_finding site id) o))
some_slope_told site id None named h = All-nil IsEntry
some_slope_told site id (Some s) named h =
    let p = slope_placed site s.sub id s.runway named h.named in
    All-cons IsEntry (slope_finding site id s) [] (record { place = p.0; level = p.1 s.excess; small = h.small }) (All-nil IsEntry)

pub slope_told : (site : Site) (f : Airfield) → IsNamed f → All IsEntry (slope_entries site f)
slope_told site (AnAirport a) named =
    some_slope_told site a.id (notice_slope a site.at (notice_top site)) named.0 (notice_slope_told a site.at (notice_top site) named.1)
slope_told site (AHeliport h) named =
    one_told (rule_b3 site) (field_key h.id 0) (pad_notice_excess h site.at (notice_top site))
    (either_placed (is_traverse_way site.kind) rules.WayB3 rules.NoticeB3 (field_key h.id 0) ((named, refl, refl), λ e. tt) ((named, refl, refl), λ e. tt))
    (pad_notice_small h site.at (notice_top site))
