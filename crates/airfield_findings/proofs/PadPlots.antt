-- The plots of heliports.
use Rattle.std.proofs.Common.{subst, ◌≡◌, ◌∙◌, List, true, false, true≢false, refl, sym, pos, arith}
use Rattle.std.specs.List.{All}
use Rattle.std.proofs.lemmas.Int.{ints}
use Rattle.std.proofs.lemmas.List.Elements.{All-weaker}
use Rattle.grid_exact.specs.Area.{Has, has_point}
use Rattle.grid_exact.proofs.AreaLemmas.{has_point-Has}
use Rattle.outline_boxes.proofs.More.{Encloses_through, Has_more}
use Rattle.grid_exact.specs.declared.area.Area.{Area}
use Rattle.grid_exact.specs.declared.point.Point.{Point}
use Rattle.outline_boxes.specs.Boxes.{Encloses}
use Rattle.airfields.specs.Airfields.{IsHeldHeliport}
use Rattle.airfields.specs.Categories.{is_described}
use Rattle.airfields.specs.declared.airfield.Heliport.{Heliport}
use Rattle.airfields.specs.declared.airfield.Airfield.TheVariants.{Heliport as AHeliport}
use Rattle.heliport_surfaces.specs.Areas.{ArePadAreas}
use Rattle.surface_tree.specs.Levels.{IsPlaced}
use Rattle.surface_tree.specs.Visits.{near_area}
use Rattle.surface_tree.specs.declared.placed.Plot.{Plot}
use Rattle.surface_tree.proofs.Boxes.{close_near}
use Rattle.airfield_findings.specs.Around.{around_point}
use Rattle.airfield_findings.specs.Plots.{IsPlotOf}
use Rattle.airfield_findings.proofs.BoxOrder.{encloses_both, least_once}
use Rattle.airfield_findings.proofs.Joins.{any_of}
use Rattle.airfield_findings.proofs.PadAreas.{notice_around, notice_listed, pad_in_notice}
use Rattle.airfield_findings.proofs.PlotFacts.{placed_about, small_level}

pub pad_plot : (h : Heliport) (areas : List Area) → IsHeldHeliport h → (p : ArePadAreas h areas) → is_described h.category ≡ true → IsPlotOf (AHeliport h) (record { area = p.seven.notice; level = 5 })
pad_plot h areas held p d =
    let box = p.seven.notice in
    let plot : Plot = record { area = box; level = 5 } in
    let own = notice_around h areas held p in
    let far : Encloses (around_point h.a.x h.a.y (pos 1048576)) (around_point h.a.x h.a.y (pos 65000)) = record { west = omega (arith, ints); south = omega (arith, ints); east = omega (arith, ints); north = omega (arith, ints) } in
    let placed : IsPlaced plot =
    placed_about h.a (around_point h.a.x h.a.y (pos 50000)) plot (Encloses_through _ _ _ far own.outside) own.inside (omega (arith, ints)) (omega (arith, ints)) (small_level box h.a.x h.a.y (pos 50000) (omega (arith, ints)) own.inside) in
    record {
      some_areas = ∣ (areas, rw d p) ∣₁;
      placed = placed;
      level = refl;
      seen = λ list q x c.
          let k : ArePadAreas h list = (rw d at q) in
          let o = least_once _ box k.seven.notice p.exact.notice_least k.exact.notice_least in
          let e : box ≡ k.seven.notice = encloses_both box k.seven.notice o.0 o.1 in
          any_of (λ t. near_area x t) list k.seven.notice (notice_listed h list k) (subst (λ (t : Area). near_area x t ≡ true) e (close_near plot x placed c));
    }

-- a point outside of it lies in none of the areas
pub not_had_any : (h : Heliport) (areas : List Area) (x : Point) → IsHeldHeliport h → (p : ArePadAreas h areas) → has_point p.seven.notice x ≡ false → All (λ a. ¬ Has a x) areas
not_had_any h areas x held p n =
    All-weaker (Encloses p.seven.notice) (λ a. ¬ Has a x) (λ a e k. true≢false (sym ((has_point-Has p.seven.notice x).1 (Has_more p.seven.notice a x e k)) ∙ n)) areas (pad_in_notice h areas held p)
