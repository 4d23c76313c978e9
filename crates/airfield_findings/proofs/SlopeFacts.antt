-- The entry of a notice slope from the nearest runway.
use Rattle.std.proofs.Common.{◌≡◌, ℕ, ℤ, List, [], ◌∷◌, Option, Some, sym, ap, ◌∙◌, subst}
use Rattle.std.specs.Option.{option_map, option_to_list}
use Rattle.grid_exact.specs.declared.point.Point.{Point}
use Rattle.airfields.specs.Sites.{Site}
use Rattle.airfields.specs.declared.airfield.Airport.{Airport}
use Rattle.airfields.specs.declared.airfield.Airfield.TheVariants.{Airport as AnAirport}
use Rattle.height_rules.specs.Heights.{notice_top}
use Rattle.runway_notice.specs.Notices.{notice_slope}
use Rattle.runway_notice.specs.declared.slope.Slope.{Slope}
use Rattle.airfield_findings.specs.Entries.{rule_b, runway_key, slope_entries, slope_finding}
use Rattle.finding_lists.specs.declared.finding.Finding.{Finding}
use Rattle.finding_lists.specs.declared.finding.SurfaceKey.{SurfaceKey}
use Rattle.finding_lists.specs.declared.finding.Rule.{Rule}
use Rattle.airfield_findings.proofs.EntryFacts.{Puts}

abbrev made : Rule → SurfaceKey → ℕ → Finding
made rule key excess = record { rule = rule; key = key; excess = excess }

pub slope_put : (Old New : List Finding → Type 0) (site : Site) (a b : Airport) (at : Point) (top : ℤ) (s : Slope) (rule : Rule) (key : SurfaceKey) → b ≡ a → at ≡ site.at → top ≡ notice_top site
    → Some s ≡ notice_slope b at top → rule ≡ rule_b site s.sub → key ≡ runway_key b.id s.runway 0 → Puts Old New (made rule key s.excess ∷ []) → Puts Old New (slope_entries site (AnAirport a))
slope_put Old New site a b at top s rule key p q r h er ek puts =
    let e : notice_slope a site.at (notice_top site) ≡ Some s =
    sym (h ∙ ap (λ (c : Airport). notice_slope c at top) p ∙ ap (λ (x : Point). notice_slope a x top) q ∙ ap (λ (t : ℤ). notice_slope a site.at t) r) in
    let f : made rule key s.excess ≡ slope_finding site a.id s =
    ap (λ (x : Rule). made x key s.excess) er ∙ ap (λ (k : SurfaceKey). made (rule_b site s.sub) k s.excess) (ek ∙ ap (λ (c : Airport). runway_key c.id s.runway 0) p) in
    let g : made rule key s.excess ∷ [] ≡ option_to_list (option_map (slope_finding site a.id) (notice_slope a site.at (notice_top site))) =
    ap (λ (x : Finding). x ∷ []) f ∙ ap (λ (o : Option Slope). option_to_list (option_map (slope_finding site a.id) o)) (sym e) in
    subst (λ (xs : List Finding). Puts Old New xs) g puts
