-- Where an airfield gives nothing.
use Rattle.std.proofs.Common.{◌≡◌, refl, ap, ◌∙◌, ℕ, Bool, true, false, ◌&&◌, ◌||◌, List, [], Option, Some, None, if◌then◌else◌}
use Rattle.std.specs.Option.{option_map}
use Rattle.grid_exact.specs.Area.{has_point}
use Rattle.grid_exact.specs.declared.area.Area.{Area}
use Rattle.airfields.specs.Sites.{Site, IsSite}
use Rattle.airfields.specs.declared.airfield.Airfield.{Airfield}
use Rattle.airfield_findings.specs.Entries.{of_airfield, slope_entries}
use Rattle.airfield_findings.specs.Prepared.{airfield_of}
use Rattle.finding_lists.specs.declared.finding.Finding.{Finding}
use Rattle.airfield_findings.specs.declared.prepared.Prepared.{Prepared}
use Rattle.oe_findings.proofs.Sights.{levels_of}
use Rattle.review_marks.specs.Near.{area_of, lies_in, IsAround}
use Rattle.review_marks.specs.Shares.{AirfieldChange, concerns, differ_shares, findings_of_field, is_due, is_described_field, names, share_of}
use Rattle.review_marks.specs.declared.share.Share.{Share}
use Rattle.review_marks.proofs.Unconcerned.{same_lists}

pub nothing_standards : (p : Prepared) (site : Site) → IsSite site → has_point p.plot.area site.at ≡ false → of_airfield site (airfield_of p) ≡ []
nothing_standards p site is out = p.in_place.standards site (levels_of site is) out

pub nothing_slope : (p : Prepared) (site : Site) → IsSite site → has_point p.plot.area site.at ≡ false → slope_entries site (airfield_of p) ≡ []
nothing_slope p site is out = p.in_place.slopes site (levels_of site is) out

abbrev nothing : Share
nothing = record { standards = []; slope = []; is_on = false }

if_nothing : (b : Bool) (xs : List Finding) → xs ≡ [] → (if b then xs else []) ≡ []
if_nothing true xs h = h
if_nothing false xs h = refl

no_share : (id : List ℕ) (o : Option Airfield) (site : Site) → findings_of_field (of_airfield site) o ≡ [] → findings_of_field (slope_entries site) o ≡ [] → names id site ≡ false → share_of id o site ≡ nothing
no_share id o site p q n =
    λ i. record { standards = p i; slope = if_nothing (is_due site) (findings_of_field (slope_entries site) o) q i; is_on = ap (λ (b : Bool). b && is_described_field o) n i }

-- where neither the airfield before nor the one after gives anything, the change does not concern the structure
pub not_reached : (c : AirfieldChange) (site : Site) → findings_of_field (of_airfield site) c.was ≡ [] → findings_of_field (slope_entries site) c.was ≡ [] → findings_of_field (of_airfield site) c.is_now ≡ [] → findings_of_field (slope_entries site) c.is_now ≡ []
    → names c.id site ≡ false → concerns c site ≡ false
not_reached c site p q r s n =
    ap (λ (x : Share). differ_shares x (share_of c.id c.is_now site)) (no_share c.id c.was site p q n) ∙ ap (differ_shares nothing) (no_share c.id c.is_now site r s n)
    ∙ ap (λ (b : Bool). (b || b) || false) (same_lists [] [] refl)

no_standards : (o : Option Prepared) (site : Site) → IsSite site → lies_in (area_of o) site.at ≡ false → findings_of_field (of_airfield site) (option_map airfield_of o) ≡ []
no_standards None site is out = refl
no_standards (Some p) site is out = nothing_standards p site is out

no_slope : (o : Option Prepared) (site : Site) → IsSite site → lies_in (area_of o) site.at ≡ false → findings_of_field (slope_entries site) (option_map airfield_of o) ≡ []
no_slope None site is out = refl
no_slope (Some p) site is out = nothing_slope p site is out

-- nor does it where the structure stands outside of a box about both, and is not on the airfield
pub not_near : (id : List ℕ) (was is_now : Option Prepared) (box : Option Area) (site : Site) → IsSite site → IsAround box (area_of was) → IsAround box (area_of is_now) → lies_in box site.at ≡ false
    → names id site ≡ false → concerns (record { id = id; was = option_map airfield_of was; is_now = option_map airfield_of is_now }) site ≡ false
not_near id was is_now box site is a b out n =
    let o = a site.at out in
    let p = b site.at out in
    not_reached (record { id = id; was = option_map airfield_of was; is_now = option_map airfield_of is_now }) site (no_standards was site is o) (no_slope was site is o) (no_standards is_now site is p) (no_slope is_now site is p) n
