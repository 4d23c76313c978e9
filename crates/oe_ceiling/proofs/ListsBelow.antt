-- A structure without a finding has none at a lower height either.
use Rattle.std.proofs.Common.{◌≡◌, ℕ, ℤ, ◌+ℤ◌, ◌≤ℤ◌, arith, refl, Option, Some, None, Bool, true, false, cond, ◌&&◌, int_le, List, [], ◌++◌}
use Rattle.std.specs.Prelude.{int_lt, is_none, not, option_map}
use Rattle.std.specs.List.{flat_map}
use Rattle.std.specs.Option.{option_to_list}
use Rattle.std.proofs.lemmas.Bool.{and_from, and_parts}
use Rattle.std.proofs.lemmas.Int.{ints}
use Rattle.grid_exact.specs.Excess.{most_excess}
use Rattle.grid_exact.specs.declared.cap.Cap.{Cap}
use Rattle.grid_exact.specs.declared.point.Point.{Point}
use Rattle.grid_exact.proofs.TestFacts.{le_in, le_out}
use Rattle.airfields.specs.Categories.{has_civil_surfaces}
use Rattle.airfields.specs.Sites.{Site}
use Rattle.airfields.specs.declared.airfield.Airfield.{Airfield}
use Rattle.airfields.specs.declared.airfield.Airfield.TheVariants.{Airport as AnAirport, Heliport as AHeliport}
use Rattle.airfields.specs.declared.airfield.Airport.{Airport}
use Rattle.airfields.specs.declared.airfield.Heliport.{Heliport}
use Rattle.airfields.specs.declared.runway.Runway.{Runway}
use Rattle.height_rules.specs.AboveGround.{height_excess, height_limit, notice_excess, notice_limit}
use Rattle.height_rules.specs.Heights.{notice_top, standards_top}
use Rattle.height_rules.specs.NearAirport.{near_excess}
use Rattle.horizontal_hull.specs.Arcs.{dome_of}
use Rattle.horizontal_hull.specs.Within.{cap_of, conical_excess, horizontal_excess}
use Rattle.imaginary_surfaces.specs.Strips.{primary_excess, approach_excess, primary_transition_excess, approach_transition_excess}
use Rattle.runway_lines.specs.declared.end.End.TheVariants as ends
use Rattle.heliport_surfaces.specs.Pads.{pad_primary_excess, pad_approach_excess, pad_transition_excess, pad_notice_excess}
use Rattle.heliport_surfaces.specs.declared.parts.PadEnd.TheVariants as pad_ends
use Rattle.heliport_surfaces.specs.declared.parts.Beside.TheVariants as sides
use Rattle.runway_notice.specs.Notices.{notice_slope}
use Rattle.runway_notice.specs.declared.slope.Slope.{Slope}
use Rattle.notice_slopes.specs.Exemptions.{exemption_of, is_antenna, is_low_antenna}
use Rattle.notice_slopes.specs.declared.exemption.Exemption.{Exemption}
use Rattle.notice_slopes.specs.declared.exemption.Exemption.TheVariants.{Shielded, Device, OtherRule, Antenna}
use Rattle.notice_slopes.specs.declared.without_notice.TheConstants.{LOW_ANTENNA}
use Rattle.finding_lists.specs.declared.finding.Rule.TheVariants as rules
use Rattle.airfield_findings.specs.Entries.{entries, no_key, field_key, of_airfield, of_pad, of_runway, of_runways, of_surfaces, rule_b3, runway_key, slope_entries, slope_finding}
use Rattle.oe_findings.specs.List.{notices_if_due, notices_of, on_airfield, rule_a}
use Rattle.oe_ceiling.specs.Ceilings.{at_height, IsClear}
use Rattle.oe_ceiling.proofs.Lowering.{all_below, both_below, entry_below, flat_rises, none_below}
use Rattle.oe_ceiling.proofs.SurfacesBelow.{approach_below, approach_transition_below, conical_below, horizontal_below, primary_below, primary_transition_below}
use Rattle.oe_ceiling.proofs.HeliportsBelow.{pad_approach_below, pad_notice_below, pad_primary_below, pad_transition_below}
use Rattle.oe_ceiling.proofs.NoticesBelow.{near_below, slope_below}

-- ---- the tops
pub notice_top_below : (s : Site) (lower higher : ℤ) → lower ≤ℤ higher → notice_top (at_height s lower) ≤ℤ notice_top (at_height s higher)
notice_top_below s lower higher h = omega (arith, ints)

pub standards_top_below : (s : Site) (lower higher : ℤ) → lower ≤ℤ higher → standards_top (at_height s lower) ≤ℤ standards_top (at_height s higher)
standards_top_below s lower higher h =
    elim s.flags.controlled as (λ b. cond b (s.terrain +ℤ lower) (notice_top (at_height s lower)) ≤ℤ cond b (s.terrain +ℤ higher) (notice_top (at_height s higher))) [
      | true ↦ omega (arith, ints, h)
      | false ↦ notice_top_below s lower higher h
    ]

-- ---- the heights above the ground
height_below : (s : Site) (lower higher : ℤ) → lower ≤ℤ higher → height_excess (at_height s higher) ≡ None → height_excess (at_height s lower) ≡ None
height_below s lower higher l h =
    none_below true (λ z. int_lt (height_limit s) z) (λ z. int_le (height_limit s) z) most_excess (flat_rises (height_limit s)) (standards_top (at_height s lower)) (standards_top (at_height s higher)) (standards_top_below s lower higher l) h

notice_below : (s : Site) (lower higher : ℤ) → lower ≤ℤ higher → notice_excess (at_height s higher) ≡ None → notice_excess (at_height s lower) ≡ None
notice_below s lower higher l h =
    none_below true (λ z. int_lt (notice_limit s) z) (λ z. int_le (notice_limit s) z) most_excess (flat_rises (notice_limit s)) (notice_top (at_height s lower)) (notice_top (at_height s higher)) (notice_top_below s lower higher l) h

-- ---- the standards of an airfield
six_below : {A : Type 0} (a b d e f g a' b' d' e' f' g' : List A) → (a' ≡ [] → a ≡ []) → (b' ≡ [] → b ≡ []) → (d' ≡ [] → d ≡ []) → (e' ≡ [] → e ≡ []) → (f' ≡ [] → f ≡ []) → (g' ≡ [] → g ≡ []) →
    a' ++ b' ++ d' ++ e' ++ f' ++ g' ≡ [] → a ++ b ++ d ++ e ++ f ++ g ≡ []
six_below a b d e f g a' b' d' e' f' g' h1 h2 h3 h4 h5 h6 =
    both_below (a ++ b ++ d ++ e ++ f) g (a' ++ b' ++ d' ++ e' ++ f') g'
    (both_below (a ++ b ++ d ++ e) f (a' ++ b' ++ d' ++ e') f'
    (both_below (a ++ b ++ d) e (a' ++ b' ++ d') e' (both_below (a ++ b) d (a' ++ b') d' (both_below a b a' b' h1 h2) h3) h4) h5) h6

runway_below : (id : List ℕ) (x : Point) (y z : ℤ) (cap : Cap) → y ≤ℤ z → (r : Runway) → of_runway id x z cap r ≡ [] → of_runway id x y cap r ≡ []
runway_below id x y z cap l r =
    let k0 = runway_key id r.name 0 in
    let k1 = runway_key id r.name 1 in
    let k2 = runway_key id r.name 2 in
    six_below
    (entries rules.Primary k0 (primary_excess r x y)) (entries rules.Approach k1 (approach_excess r ends.One x y)) (entries rules.Approach k2 (approach_excess r ends.Two x y))
    (entries rules.Transition k0 (primary_transition_excess r x cap y)) (entries rules.Transition k1 (approach_transition_excess r ends.One x cap y)) (entries rules.Transition k2 (approach_transition_excess r ends.Two x cap y))
    (entries rules.Primary k0 (primary_excess r x z)) (entries rules.Approach k1 (approach_excess r ends.One x z)) (entries rules.Approach k2 (approach_excess r ends.Two x z))
    (entries rules.Transition k0 (primary_transition_excess r x cap z)) (entries rules.Transition k1 (approach_transition_excess r ends.One x cap z)) (entries rules.Transition k2 (approach_transition_excess r ends.Two x cap z))
    (entry_below rules.Primary k0 (primary_excess r x y) (primary_excess r x z) (primary_below r x y z l))
    (entry_below rules.Approach k1 (approach_excess r ends.One x y) (approach_excess r ends.One x z) (approach_below r ends.One x y z l))
    (entry_below rules.Approach k2 (approach_excess r ends.Two x y) (approach_excess r ends.Two x z) (approach_below r ends.Two x y z l))
    (entry_below rules.Transition k0 (primary_transition_excess r x cap y) (primary_transition_excess r x cap z) (primary_transition_below r x cap y z l))
    (entry_below rules.Transition k1 (approach_transition_excess r ends.One x cap y) (approach_transition_excess r ends.One x cap z) (approach_transition_below r ends.One x cap y z l))
    (entry_below rules.Transition k2 (approach_transition_excess r ends.Two x cap y) (approach_transition_excess r ends.Two x cap z) (approach_transition_below r ends.Two x cap y z l))

if_below : {A : Type 0} (b : Bool) (xs xs' : List A) → (xs' ≡ [] → xs ≡ []) → cond b xs' [] ≡ [] → cond b xs [] ≡ []
if_below true xs xs' f h = f h
if_below false xs xs' f h = refl

runways_below : (x : Point) (y z : ℤ) (a : Airport) → y ≤ℤ z → of_runways x z a ≡ [] → of_runways x y a ≡ []
runways_below x y z a l =
    let cap = cap_of (dome_of a) x in
    if_below (has_civil_surfaces a.category) (flat_map (of_runway a.id x y cap) a.runways) (flat_map (of_runway a.id x z cap) a.runways)
    (all_below (of_runway a.id x y cap) (of_runway a.id x z cap) (runway_below a.id x y z cap l) a.runways)

surfaces_below : (x : Point) (y z : ℤ) (a : Airport) → y ≤ℤ z → of_surfaces x z a ≡ [] → of_surfaces x y a ≡ []
surfaces_below x y z a l =
    let d = dome_of a in
    let k = field_key a.id 0 in
    let h = entries rules.Horizontal k (horizontal_excess d x y) in
    let h' = entries rules.Horizontal k (horizontal_excess d x z) in
    let c = entries rules.Conical k (conical_excess d x y) in
    let c' = entries rules.Conical k (conical_excess d x z) in
    both_below (h ++ c) (of_runways x y a) (h' ++ c') (of_runways x z a)
    (both_below h c h' c' (entry_below rules.Horizontal k (horizontal_excess d x y) (horizontal_excess d x z) (horizontal_below d x y z l))
    (entry_below rules.Conical k (conical_excess d x y) (conical_excess d x z) (conical_below d x y z l)))
    (runways_below x y z a l)

pad_below : (x : Point) (y z : ℤ) (h : Heliport) → y ≤ℤ z → of_pad x z h ≡ [] → of_pad x y h ≡ []
pad_below x y z h l =
    let k0 = field_key h.id 0 in
    let k1 = field_key h.id 1 in
    let k2 = field_key h.id 2 in
    six_below
    (entries rules.PadPrimary k0 (pad_primary_excess h x y)) (entries rules.PadApproach k1 (pad_approach_excess h pad_ends.One x y)) (entries rules.PadApproach k2 (pad_approach_excess h pad_ends.Two x y))
    (entries rules.PadTransition k0 (pad_transition_excess h sides.Primary x y)) (entries rules.PadTransition k1 (pad_transition_excess h sides.ApproachOne x y)) (entries rules.PadTransition k2 (pad_transition_excess h sides.ApproachTwo x y))
    (entries rules.PadPrimary k0 (pad_primary_excess h x z)) (entries rules.PadApproach k1 (pad_approach_excess h pad_ends.One x z)) (entries rules.PadApproach k2 (pad_approach_excess h pad_ends.Two x z))
    (entries rules.PadTransition k0 (pad_transition_excess h sides.Primary x z)) (entries rules.PadTransition k1 (pad_transition_excess h sides.ApproachOne x z)) (entries rules.PadTransition k2 (pad_transition_excess h sides.ApproachTwo x z))
    (entry_below rules.PadPrimary k0 (pad_primary_excess h x y) (pad_primary_excess h x z) (pad_primary_below h x y z l))
    (entry_below rules.PadApproach k1 (pad_approach_excess h pad_ends.One x y) (pad_approach_excess h pad_ends.One x z) (pad_approach_below h pad_ends.One x y z l))
    (entry_below rules.PadApproach k2 (pad_approach_excess h pad_ends.Two x y) (pad_approach_excess h pad_ends.Two x z) (pad_approach_below h pad_ends.Two x y z l))
    (entry_below rules.PadTransition k0 (pad_transition_excess h sides.Primary x y) (pad_transition_excess h sides.Primary x z) (pad_transition_below h sides.Primary x y z l))
    (entry_below rules.PadTransition k1 (pad_transition_excess h sides.ApproachOne x y) (pad_transition_excess h sides.ApproachOne x z) (pad_transition_below h sides.ApproachOne x y z l))
    (entry_below rules.PadTransition k2 (pad_transition_excess h sides.ApproachTwo x y) (pad_transition_excess h sides.ApproachTwo x z) (pad_transition_below h sides.ApproachTwo x y z l))

airfield_below : (s : Site) (lower higher : ℤ) → lower ≤ℤ higher → (f : Airfield) → of_airfield (at_height s higher) f ≡ [] → of_airfield (at_height s lower) f ≡ []
airfield_below s lower higher l (AnAirport a) =
    let y = standards_top (at_height s lower) in
    let z = standards_top (at_height s higher) in
    let t : y ≤ℤ z = standards_top_below s lower higher l in
    both_below (entries rules.Near (field_key a.id 0) (near_excess a (at_height s lower))) (of_surfaces s.at y a) (entries rules.Near (field_key a.id 0) (near_excess a (at_height s higher))) (of_surfaces s.at z a)
    (entry_below rules.Near (field_key a.id 0) (near_excess a (at_height s lower)) (near_excess a (at_height s higher)) (near_below a s lower higher t))
    (surfaces_below s.at y z a t)
airfield_below s lower higher l (AHeliport h) = pad_below s.at (standards_top (at_height s lower)) (standards_top (at_height s higher)) h (standards_top_below s lower higher l)

-- ---- notice
no_slope : {A : Type 0} (f : Slope → A) (lower higher : Option Slope) → (higher ≡ None → lower ≡ None) → option_to_list (option_map f higher) ≡ [] → option_to_list (option_map f lower) ≡ []
no_slope f lower None below h = (let e : lower ≡ None = below refl in rw e refl)
no_slope f lower (Some s) below h = absurd (cc)

slope_entries_below : (s : Site) (lower higher : ℤ) → lower ≤ℤ higher → (f : Airfield) → slope_entries (at_height s higher) f ≡ [] → slope_entries (at_height s lower) f ≡ []
slope_entries_below s lower higher l (AnAirport a) =
    no_slope (slope_finding s a.id) (notice_slope a s.at (notice_top (at_height s lower))) (notice_slope a s.at (notice_top (at_height s higher)))
    (slope_below a s.at (notice_top (at_height s lower)) (notice_top (at_height s higher)) (notice_top_below s lower higher l))
slope_entries_below s lower higher l (AHeliport h) =
    let y = notice_top (at_height s lower) in
    let z = notice_top (at_height s higher) in
    entry_below (rule_b3 s) (field_key h.id 0) (pad_notice_excess h s.at y) (pad_notice_excess h s.at z) (pad_notice_below h s.at y z (notice_top_below s lower higher l))

notices_below : (airfields : List Airfield) (s : Site) (lower higher : ℤ) → lower ≤ℤ higher → notices_of airfields (at_height s higher) ≡ [] → notices_of airfields (at_height s lower) ≡ []
notices_below airfields s lower higher l =
    let low = at_height s lower in
    let high = at_height s higher in
    let first = entries (rule_a s) no_key (notice_excess low) in
    let first' = entries (rule_a s) no_key (notice_excess high) in
    let slopes = flat_map (slope_entries low) airfields in
    let slopes' = flat_map (slope_entries high) airfields in
    both_below (first ++ slopes) (on_airfield airfields s) (first' ++ slopes') (on_airfield airfields s)
    (both_below first slopes first' slopes' (entry_below (rule_a s) no_key (notice_excess low) (notice_excess high) (notice_below s lower higher l))
    (all_below (slope_entries low) (slope_entries high) (slope_entries_below s lower higher l) airfields))
    (λ h. h)

-- ---- the exemption of low antennas: what is exempt is so at a lower height
low_antenna_below : (antenna increases : Bool) (lower higher : ℤ) → lower ≤ℤ higher → (antenna && int_le higher LOW_ANTENNA && not increases) ≡ true → (antenna && int_le lower LOW_ANTENNA && not increases) ≡ true
low_antenna_below antenna increases lower higher l h =
    let p = and_parts (antenna && int_le higher LOW_ANTENNA) (not increases) h in
    let q = and_parts antenna (int_le higher LOW_ANTENNA) p.0 in
    let k : higher ≤ℤ LOW_ANTENNA = le_in higher LOW_ANTENNA q.1 in
    and_from (antenna && int_le lower LOW_ANTENNA) (not increases) (and_from antenna (int_le lower LOW_ANTENNA) q.0 (le_out lower LOW_ANTENNA (omega (arith, ints, l, k)))) p.1

abbrev exempt_by : (shielded device other low : Bool) → Option Exemption
exempt_by shielded device other low =
    cond shielded (Some Shielded) (cond device (Some Device) (cond other (Some OtherRule) (cond low (Some Antenna) None)))

due_above : (shielded device other low high : Bool) → (high ≡ true → low ≡ true) → is_none (exempt_by shielded device other low) ≡ true → is_none (exempt_by shielded device other high) ≡ true
due_above true device other low high f h = h
due_above false true other low high f h = h
due_above false false true low high f h = h
due_above false false false low false f h = refl
due_above false false false true true f h = h
due_above false false false false true f h = absurd (let e : false ≡ true = f refl in cc)

if_due_below : {A : Type 0} (due due' : Bool) (xs xs' : List A) → (due ≡ true → due' ≡ true) → (xs' ≡ [] → xs ≡ []) → cond due' xs' [] ≡ [] → cond due xs [] ≡ []
if_due_below false due' xs xs' d f h = refl
if_due_below true true xs xs' d f h = f h
if_due_below true false xs xs' d f h = absurd (let e : false ≡ true = d refl in cc)

due_notices_below : (airfields : List Airfield) (s : Site) (lower higher : ℤ) → lower ≤ℤ higher → notices_if_due airfields (at_height s higher) ≡ [] → notices_if_due airfields (at_height s lower) ≡ []
due_notices_below airfields s lower higher l =
    let low = at_height s lower in
    let high = at_height s higher in
    if_due_below (is_none (exemption_of low)) (is_none (exemption_of high)) (notices_of airfields low) (notices_of airfields high)
    (due_above s.flags.shielded s.flags.device s.flags.other_rule (is_low_antenna low) (is_low_antenna high) (low_antenna_below (is_antenna s.kind) s.flags.increases lower higher l))
    (notices_below airfields s lower higher l)

-- ---- all findings
pub clear_below : (airfields : List Airfield) (s : Site) (lower higher : ℤ) → lower ≤ℤ higher → IsClear airfields s higher → IsClear airfields s lower
clear_below airfields s lower higher l =
    let low = at_height s lower in
    let high = at_height s higher in
    let first = entries rules.H499 no_key (height_excess low) in
    let first' = entries rules.H499 no_key (height_excess high) in
    let middle = flat_map (of_airfield low) airfields in
    let middle' = flat_map (of_airfield high) airfields in
    both_below (first ++ middle) (notices_if_due airfields low) (first' ++ middle') (notices_if_due airfields high)
    (both_below first middle first' middle' (entry_below rules.H499 no_key (height_excess low) (height_excess high) (height_below s lower higher l))
    (all_below (of_airfield low) (of_airfield high) (airfield_below s lower higher l) airfields))
    (due_notices_below airfields s lower higher l)
