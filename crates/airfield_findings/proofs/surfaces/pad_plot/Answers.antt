use Rattle.std.proofs.Common.{inl, inr, ℤ, refl, subst}
use Rattle.std.proofs.lemmas.Bool.{cases_Bool}
use Rattle.grid_exact.specs.Level.{IsLevel}
use Rattle.grid_exact.specs.declared.point.Point.{Point}
use Rattle.airfields.specs.Categories.{is_described}
use Rattle.airfields.specs.declared.airfield.Heliport.{Heliport}
use Rattle.height_rules.specs.Heights.{notice_top, standards_top}
use Rattle.heliport_surfaces.specs.Areas.{SkipsIn}
use Rattle.airfield_findings.proofs.ReachFacts.{pad_none, pad_slope_none, undescribed_slope, undescribed_standards}
use Rattle.airfield_findings.proofs.surfaces.pad_plot.Goals as goal

pub returns : goal.returns
returns c =
    let h = c.args.heliport.now in
    let plot = c.heliport_plot.result in
    let skips : (x : Point) (top : ℤ) → IsLevel top → SkipsIn h x top c.areas.result = subst (λ (p : Heliport). (x : Point) (top : ℤ) → IsLevel top → SkipsIn p x top c.areas.result) c.requires.pad c.areas.ensures.skips in
    elim (cases_Bool (is_described h.category)) [
      | inl d ↦ record {
        is_plot = c.heliport_plot.ensures.plot;
        standards = λ site levels n. pad_none h c.areas.result site.at (standards_top site) (skips site.at (standards_top site) levels.standards_level) (c.heliport_plot.ensures.outside d site.at n);
        slopes = λ site levels n. rw (pad_slope_none h c.areas.result site.at (notice_top site) (skips site.at (notice_top site) levels.notice_level) (c.heliport_plot.ensures.outside d site.at n)) refl;
      }
      | inr d ↦ record {
        is_plot = c.heliport_plot.ensures.plot;
        standards = λ site levels n. undescribed_standards h site.at (standards_top site) d;
        slopes = λ site levels n. rw (undescribed_slope h site.at (notice_top site) d) refl;
      }
    ]
