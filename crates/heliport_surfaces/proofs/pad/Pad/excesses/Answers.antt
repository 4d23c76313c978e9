use Rattle.std.proofs.Common.{◌≡◌, ℕ, ℤ, Option, FitsSigned, w64, sym, to_z-of_z, ◌∙◌}
use Rattle.grid_exact.specs.Lines.{Offset}
use Rattle.airfields.specs.Categories.{is_described}
use Rattle.heliport_surfaces.specs.declared.parts.PadEnd.TheVariants.{One, Two}
use Rattle.heliport_surfaces.specs.Approaches.{Approach, excess_over_approach, excess_over_approach_side}
use Rattle.heliport_surfaces.specs.Landings.{Landing, excess_over_primary, excess_over_primary_side}
use Rattle.heliport_surfaces.specs.Pads.{approach_offset, excess_if, landing_offset, approach_of, landing_of, pad_approach_excess, pad_primary_excess, pad_transition_excess}
use Rattle.heliport_surfaces.specs.Shapes.{approach_shape, landing_shape}
use Rattle.heliport_surfaces.proofs.PadFacts.{there}
use Rattle.heliport_surfaces.proofs.pad.Pad.excesses.Goals as goal

pub returns : goal.returns
unfolding pad_primary_excess pad_approach_excess pad_transition_excess
returns c =
    let h = c.args.self.now in
    let x = c.args.x.now in
    let top = c.args.top in
    let ft : FitsSigned w64 top = c.ranges.top in
    let b = is_described h.category in
    let described = sym c.is_described.ensures.described ∙ c.if-not-is_described.false in
    let l = landing_shape c.landing-landing.result.now in
    let a1 = approach_shape c.approach-approach1.result.now in
    let a2 = approach_shape c.approach-approach2.result.now in
    let at = c.offset-at.result.offset in
    let at1 = c.offset-at1.result.offset in
    let at2 = c.offset-at2.result.offset in
    let of_landing : (f : Landing → Offset → ℤ → Option ℕ) (r : Option ℕ) → r ≡ f l at top → r ≡ excess_if b (f (landing_of h) (landing_offset h x) top) = λ f r e. there {A = Landing} b f (λ p. p.line) l (landing_of h) at x top r described c.landing-landing.ensures c.offset-at.ensures e in
    let of_one : (f : Approach → Offset → ℤ → Option ℕ) (r : Option ℕ) → r ≡ f a1 at1 top → r ≡ excess_if b (f (approach_of h One) (approach_offset h One x) top) = λ f r e. there {A = Approach} b f (λ p. p.line) a1 (approach_of h One) at1 x top r described c.approach-approach1.ensures c.offset-at1.ensures e in
    let of_two : (f : Approach → Offset → ℤ → Option ℕ) (r : Option ℕ) → r ≡ f a2 at2 top → r ≡ excess_if b (f (approach_of h Two) (approach_offset h Two x) top) = λ f r e. there {A = Approach} b f (λ p. p.line) a2 (approach_of h Two) at2 x top r described c.approach-approach2.ensures c.offset-at2.ensures e in
    record {
      value = record {
        primary_is = of_landing excess_over_primary c.excess.result (simp to_z-of_z at c.excess.ensures);
        approach1_is = of_one excess_over_approach c.excess-2.result (simp to_z-of_z at c.excess-2.ensures);
        approach2_is = of_two excess_over_approach c.excess-3.result (simp to_z-of_z at c.excess-3.ensures);
        beside_primary_is = of_landing excess_over_primary_side c.excess_beside.result (simp to_z-of_z at c.excess_beside.ensures);
        beside_approach1_is = of_one excess_over_approach_side c.excess_beside-2.result (simp to_z-of_z at c.excess_beside-2.ensures);
        beside_approach2_is = of_two excess_over_approach_side c.excess_beside-3.result (simp to_z-of_z at c.excess_beside-3.ensures);
      };
    }
