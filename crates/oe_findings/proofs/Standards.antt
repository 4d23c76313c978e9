-- Which findings of a list are standards: the height of 77.17(a)(1) and the entries of the airfields, and no notice rule.
use Rattle.std.proofs.Common.{◌≡◌, ℕ, Bool, true, false, ◌||◌, List, [], ◌∷◌, ◌++◌, Option, Some, None, map, refl, sym, ap, ◌∙◌, if◌then◌else◌}
use Rattle.std.specs.Prelude.{is_some, is_none, not}
use Rattle.std.specs.List.{flat_map}
use Rattle.std.specs.Option.{option_map, option_to_list}
use Rattle.std.proofs.lemmas.List.Concat.{flat_map-append}
use Rattle.std.proofs.lemmas.List.Folds.{list_any-append}
use Rattle.airfields.specs.Sites.{Site, is_traverse_way}
use Rattle.airfields.specs.declared.airfield.Airfield.{Airfield}
use Rattle.airfields.specs.declared.airfield.Airfield.TheVariants.{Airport as AnAirport, Heliport as AHeliport}
use Rattle.height_rules.specs.AboveGround.{notice_excess, height_excess}
use Rattle.height_rules.specs.Heights.{notice_top}
use Rattle.runway_notice.specs.Notices.{notice_slope}
use Rattle.runway_notice.specs.declared.slope.Slope.{Slope}
use Rattle.runway_notice.specs.declared.slope.Sub.{Sub}
use Rattle.runway_notice.specs.declared.slope.Sub.TheVariants.{B1, B2}
use Rattle.notice_slopes.specs.Exemptions.{exemption_of}
use Rattle.notice_slopes.specs.OnAirfields.{is_on_described}
use Rattle.airfield_findings.specs.Entries.{entries, no_key, field_key, of_airfield, rule_b, rule_b3, slope_finding, slope_entries}
use Rattle.airfield_findings.specs.Prepared.{airfield_of}
use Rattle.finding_lists.specs.Verdicts.{is_notice, is_obstruction}
use Rattle.finding_lists.specs.declared.finding.Finding.{Finding}
use Rattle.finding_lists.specs.declared.finding.SurfaceKey.{SurfaceKey}
use Rattle.finding_lists.specs.declared.finding.Rule.{Rule}
use Rattle.finding_lists.specs.declared.finding.Rule.TheVariants as rules
use Rattle.airfield_findings.specs.declared.prepared.Prepared.{Prepared}
use Rattle.oe_findings.specs.List.{rule_a, on_airfield, notices_of, notices_if_due, findings_of}
use Rattle.oe_findings.specs.Screenings.{exceeds_over}

two_parts : (xs ys : List Finding) → is_obstruction (xs ++ ys) ≡ (is_obstruction xs || is_obstruction ys)
two_parts xs ys = list_any-append (λ (f : Finding). not (is_notice f.rule)) xs ys

-- two lists without standards
neither : (xs ys : List Finding) → is_obstruction xs ≡ false → is_obstruction ys ≡ false → is_obstruction (xs ++ ys) ≡ false
neither xs ys p q = two_parts xs ys ∙ ap (λ (b : Bool). b || is_obstruction ys) p ∙ q

-- a list without standards, or none
either : (b : Bool) (xs : List Finding) → is_obstruction xs ≡ false → is_obstruction (if b then xs else []) ≡ false
either true xs h = h
either false xs h = refl

-- the entry of a notice rule is no standard
no_entry : (rule : Rule) (key : SurfaceKey) (x : Option ℕ) → is_notice rule ≡ true → is_obstruction (entries rule key x) ≡ false
no_entry rule key None e = refl
no_entry rule key (Some n) e = ap (λ (b : Bool). not b || false) e

-- the height of 77.17(a)(1) is one, where there is an entry
height_entry : (x : Option ℕ) → is_obstruction (entries rules.H499 no_key x) ≡ is_some x
height_entry None = refl
height_entry (Some n) = refl

notice_a : (b : Bool) → is_notice (if b then rules.WayA else rules.NoticeA) ≡ true
notice_a true = refl
notice_a false = refl

notice_b1 : (b : Bool) → is_notice (if b then rules.WayB1 else rules.NoticeB1) ≡ true
notice_b1 true = refl
notice_b1 false = refl

notice_b2 : (b : Bool) → is_notice (if b then rules.WayB2 else rules.NoticeB2) ≡ true
notice_b2 true = refl
notice_b2 false = refl

notice_b3 : (b : Bool) → is_notice (if b then rules.WayB3 else rules.NoticeB3) ≡ true
notice_b3 true = refl
notice_b3 false = refl

notice_b : (site : Site) (sub : Sub) → is_notice (rule_b site sub) ≡ true
notice_b site B1 = notice_b1 (is_traverse_way site.kind)
notice_b site B2 = notice_b2 (is_traverse_way site.kind)

no_slope : (site : Site) (id : List ℕ) (o : Option Slope) → is_obstruction (option_to_list (option_map (slope_finding site id) o)) ≡ false
no_slope site id None = refl
no_slope site id (Some s) = ap (λ (b : Bool). not b || false) (notice_b site s.sub)

no_slopes_of : (site : Site) (f : Airfield) → is_obstruction (slope_entries site f) ≡ false
no_slopes_of site (AnAirport a) = no_slope site a.id (notice_slope a site.at (notice_top site))
no_slopes_of site (AHeliport h) = no_entry (rule_b3 site) (field_key h.id 0) _ (notice_b3 (is_traverse_way site.kind))

no_slopes : (site : Site) (airfields : List Airfield) → is_obstruction (flat_map (slope_entries site) airfields) ≡ false
no_slopes site [] = refl
no_slopes site (f ∷ fs) = neither (slope_entries site f) (flat_map (slope_entries site) fs) (no_slopes_of site f) (no_slopes site fs)

no_construction : (o : Option (List ℕ)) → is_obstruction (option_to_list (option_map (λ id. record { rule = rules.NoticeD; key = field_key id 0; excess = 0 }) o)) ≡ false
no_construction None = refl
no_construction (Some id) = refl

-- the notice rules are no standards
no_notices : (airfields : List Airfield) (site : Site) → is_obstruction (notices_if_due airfields site) ≡ false
no_notices airfields site =
    let first = entries (rule_a site) no_key (notice_excess site) in
    let slopes = flat_map (slope_entries site) airfields in
    let found : List Finding = option_to_list (option_map (λ id. record { rule = rules.NoticeD; key = field_key id 0; excess = 0 }) site.on) in
    either (is_none (exemption_of site)) (notices_of airfields site)
    (neither (first ++ slopes) (on_airfield airfields site)
    (neither first slopes (no_entry (rule_a site) no_key (notice_excess site) (notice_a (is_traverse_way site.kind))) (no_slopes site airfields))
    (either (is_on_described airfields site) found (no_construction site.on)))

or_false : (b : Bool) → (b || false) ≡ b
or_false true = refl
or_false false = refl

-- a list has a standard where the height is one, or an airfield has one
whole : (airfields : List Airfield) (site : Site) → is_obstruction (findings_of airfields site) ≡ (is_some (height_excess site) || exceeds_over site airfields)
whole airfields site =
    let first = entries rules.H499 no_key (height_excess site) in
    let middle = flat_map (of_airfield site) airfields in
    two_parts (first ++ middle) (notices_if_due airfields site) ∙ ap (λ (b : Bool). is_obstruction (first ++ middle) || b) (no_notices airfields site)
    ∙ or_false (is_obstruction (first ++ middle)) ∙ two_parts first middle ∙ ap (λ (b : Bool). b || is_obstruction middle) (height_entry (height_excess site))

pub by_height : (airfields : List Airfield) (site : Site) → is_some (height_excess site) ≡ true → true ≡ is_obstruction (findings_of airfields site)
by_height airfields site h = sym (whole airfields site ∙ ap (λ (b : Bool). b || exceeds_over site airfields) h)

pub by_airfields : (airfields : List Airfield) (site : Site) (found : Bool) → is_some (height_excess site) ≡ false → found ≡ exceeds_over site airfields → found ≡ is_obstruction (findings_of airfields site)
by_airfields airfields site found h e = e ∙ sym (whole airfields site ∙ ap (λ (b : Bool). b || exceeds_over site airfields) h)

image_append : (g : Prepared → Airfield) (xs : List Prepared) (p : Prepared) → map g (xs ++ p ∷ []) ≡ map g xs ++ g p ∷ []
image_append g [] p = refl
image_append g (x ∷ xs) p = ap (λ (zs : List Airfield). g x ∷ zs) (image_append g xs p)

more : (site : Site) (items : List Prepared) (p : Prepared) → exceeds_over site (map airfield_of (items ++ p ∷ [])) ≡ (exceeds_over site (map airfield_of items) || is_obstruction (of_airfield site (airfield_of p)))
more site items p =
    let before = map airfield_of items in
    ap (exceeds_over site) (image_append airfield_of items p) ∙ ap is_obstruction (flat_map-append (of_airfield site) before (airfield_of p ∷ []))
    ∙ two_parts (flat_map (of_airfield site) before) (of_airfield site (airfield_of p) ++ [])
    ∙ ap (λ (b : Bool). exceeds_over site before || b) (two_parts (of_airfield site (airfield_of p)) [] ∙ or_false (is_obstruction (of_airfield site (airfield_of p))))

-- one airfield more, where none before it told
pub exceeds_more : (site : Site) (items : List Prepared) (p : Prepared) (was found : Bool) → was ≡ exceeds_over site (map airfield_of items) → was ≡ false
    → found ≡ is_obstruction (of_airfield site (airfield_of p)) → found ≡ exceeds_over site (map airfield_of (items ++ p ∷ []))
exceeds_more site items p was found e n f = f ∙ sym (more site items p ∙ ap (λ (b : Bool). b || is_obstruction (of_airfield site (airfield_of p))) (sym e ∙ n))

-- and where one did
pub exceeds_still : (site : Site) (items : List Prepared) (p : Prepared) (was : Bool) → was ≡ exceeds_over site (map airfield_of items) → was ≡ true
    → was ≡ exceeds_over site (map airfield_of (items ++ p ∷ []))
exceeds_still site items p was e y = y ∙ sym (more site items p ∙ ap (λ (b : Bool). b || is_obstruction (of_airfield site (airfield_of p))) (sym e ∙ y))
