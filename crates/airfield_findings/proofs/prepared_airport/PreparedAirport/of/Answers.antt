use Rattle.std.proofs.Common.{◌≡◌, ℤ, List, Option, Some, None, ap, refl, sym, ◌∙◌, subst, FitsSigned, w64, to_z, of_z, to_z-of_z, arith}
use Rattle.std.proofs.lemmas.Int.{ints}
use Rattle.std.specs.Option.{MatchOption}
use Rattle.grid_exact.specs.declared.area.Area.{Area}
use Rattle.grid_exact.specs.declared.point.Point.{Point}
use Rattle.height_rules.specs.Heights.{notice_top, standards_top}
use Rattle.height_rules.specs.NearAreas.{HasLimit, IsNearArea}
use Rattle.outline_boxes.specs.Bounds.{box_of}
use Rattle.airfield_findings.specs.StripLists.{runways_of}
use Rattle.airfield_findings.specs.Plots.{IsOver}
use Rattle.airfields.specs.declared.runway.Runway.{Runway}
use Rattle.airfields.specs.declared.airfield.Airport.{Airport}
use Rattle.airfield_findings.specs.PreparedAirports.{IsPreparedAirport}
use Rattle.airfield_findings.proofs.prepared_airport.PreparedAirport.of.Goals as goal

abbrev made : Airport → ℤ → List Runway → Airport
made a z rs = record { id = a.id; category = a.category; arp = a.arp; elevation = z; runways = rs }

same : (a : Airport) (z : ℤ) (rs : List Runway) → z ≡ a.elevation → rs ≡ a.runways → a ≡ made a z rs
same a z rs p q = sym (ap (λ (y : ℤ). made a y rs) p ∙ ap (λ (ys : List Runway). made a a.elevation ys) q)

limited : (a : Airport) (area : Option Area) → MatchOption area (¬ HasLimit a) (IsNearArea a) → (x : Point) → IsOver area x → HasLimit a
limited a None h x k = absurd k
limited a (Some box) h x k = h.has_limit

pub invariant_of-prepared : goal.invariant_of-prepared
invariant_of-prepared c =
    let a = c.args.airport.now in
    let held = c.requires.held in
    let fe : FitsSigned w64 a.elevation = omega (arith, ints, held.elevation.least, held.elevation.most) in
    let e : to_z w64 (of_z w64 a.elevation) ≡ a.elevation = to_z-of_z fe in
    subst (λ (b : Airport). IsPreparedAirport b c.of-datum.result a.id a.category c.in_ok-hull.hull (runways_of c.in_ok-strips.strips) c.of-lone.result (Some (box_of c.bounds_of-near.result)) (Some (box_of c.bounds_of-notice.result)) (Some (box_of c.bounds_of-surfaces.result)))
    (same a (to_z w64 (of_z w64 a.elevation)) c.in_ok-copy.field-0 e c.in_ok-copy.ensures.copied)
    (record {
      held = held;
      datum_is = record { x_is = c.of-datum.ensures.x; y_is = c.of-datum.ensures.y; elevation_is = c.of-datum.ensures.elevation ∙ e };
      id_is = refl;
      category_is = refl;
      hull_is = c.in_ok-hull.ensures.dome;
      strips_are = c.in_ok-strips.ensures.strips ∙ c.as_slice.ensures.value;
      lone_is = c.of-lone.ensures.lone;
      reach = record {
        near_limit = λ x h. limited a c.near_area-near_box.result c.near_area-near_box.ensures.exact x ((c.bounds_of-near.ensures x).0 h);
        near_none = λ site n. c.near_area-near_box.ensures.skips site (λ h. n ((c.bounds_of-near.ensures site.at).1 h));
        notice_none = λ x top level n. c.notice_area-notice_box.ensures.skips x top (λ h. n ((c.bounds_of-notice.ensures x).1 h));
        surfaces_none = λ x top level n.
            c.surfaces_area-surfaces_box.ensures.outside a held c.in_ok-hull.ensures.dome (c.as_slice-2.ensures.value ∙ c.in_ok-strips.ensures.strips ∙ c.as_slice.ensures.value) x top level (λ h. n ((c.bounds_of-surfaces.ensures x).1 h));
      };
    })

pub returns-clause-plot : goal.returns-clause-plot
returns-clause-plot c =
    let a = c.args.airport.now in
    let o = c.airport_plot-plot.ensures.outside in
    let strips = c.as_slice-2.ensures.value ∙ c.in_ok-strips.ensures.strips ∙ c.as_slice.ensures.value in
    record {
      is_plot = c.airport_plot-plot.ensures.plot;
      standards = λ site levels n.
          rw (
            c.near_area-near_box.ensures.skips site (o site.at n).0,
            c.surfaces_area-surfaces_box.ensures.outside a c.requires.held c.in_ok-hull.ensures.dome strips site.at (standards_top site) levels.standards_level (o site.at n).2,
          ) refl;
      slopes = λ site levels n. rw (c.notice_area-notice_box.ensures.skips site.at (notice_top site) (o site.at n).1) refl;
    }
