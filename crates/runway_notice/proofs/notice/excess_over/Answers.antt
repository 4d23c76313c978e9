use Rattle.std.proofs.Common.{◌≡◌, ◌≤ℤ◌, ℕ, ℤ, ◌↔◌, Bool, Option, None, true, false, FitsSigned, w64, to_z-of_z, arith, ap, ◌∙◌, subst, IsTrue}
use Rattle.std.proofs.lemmas.Int.{ints}
use Rattle.grid_exact.specs.Excess.{IsExcess, covering_surface}
use Rattle.grid_exact.proofs.ExcessLemmas.{IsExcess-covered, IsExcess-unique}
use Rattle.grid_exact.proofs.TestFacts.{le_in}
use Rattle.runway_notice.specs.Distances.{Fraction, IsAtLeastRootOf, IsAboveRootOf, run_of}
use Rattle.runway_notice.specs.Measures.{fraction}
use Rattle.runway_notice.specs.Nearest.{distance_of, elevation_of}
use Rattle.runway_notice.specs.Slopes.{range_of, ratio_of, sub_of}
use Rattle.runway_notice.specs.Surfaces.{slope_excess, slope_surface}
use Rattle.runway_notice.proofs.CandidateFacts.{distance_is}
use Rattle.runway_notice.proofs.SlopeFacts.{not_over, ratio_rises, slope_excess_is}
use Rattle.runway_notice.proofs.notice.excess_over.Goals as goal
use Rattle.runway_notice.proofs.notice.excess_over.Goals.{After-is_at_most}

-- what the test of the range says
within : (t : Bool) (d e : Fraction) (b n : ℤ) → d ≡ e → b ≡ n → (IsTrue t ↔ IsAtLeastRootOf d b) → IsTrue t ↔ IsAtLeastRootOf e n
within t d e b n p q h = rw (p, q) at h

pub returns-then-top-base : goal.returns-then-top-base
returns-then-top-base c =
    let a = c.args.airport.now in
    let r = c.args.runway.now.runway.now in
    let x = c.args.point.now in
    let base = c.elevation-base in
    let ft : FitsSigned w64 c.args.top = c.ranges.top in
    let fb : FitsSigned w64 base.result = omega (arith, ints, base.ensures.size) in
    let l : c.args.top ≤ℤ base.result = le_in c.args.top base.result (simp to_z-of_z at c.if-top-base.true) in
    let h : c.args.top ≤ℤ elevation_of x r = rw (← base.ensures.value) l in
    let none : IsExcess (slope_surface a r x) c.args.top None = λ p. not_over (distance_of x r) (ratio_of (sub_of a.runways)) (elevation_of x r) c.args.top (ratio_rises (sub_of a.runways)) h p.1 in
    IsExcess-unique (slope_surface a r x) c.args.top None (slope_excess a r x c.args.top) none (slope_excess_is a r x c.args.top c.requires.candidate.proper c.requires.top)

pub returns-then-not-is_at_most : goal.returns-then-not-is_at_most
returns-then-not-is_at_most c =
    let a = c.args.airport.now in
    let r = c.args.runway.now.runway.now in
    let x = c.args.point.now in
    let fr : FitsSigned w64 c.range.result = omega (arith, ints) in
    let d = distance_is x c.args.runway.now _ c.requires.candidate c.distance-distance.ensures in
    let h : IsTrue c.is_at_most.result ↔ IsAtLeastRootOf (fraction c.distance-distance.result) c.range.result = simp to_z-of_z at c.is_at_most.ensures in
    let k = within c.is_at_most.result (fraction c.distance-distance.result) (distance_of x r) c.range.result (range_of (sub_of a.runways)) d (c.range.ensures ∙ ap range_of c.requires.sub) h in
    let none : IsExcess (slope_surface a r x) c.args.top None = λ p. (let t : c.is_at_most.result ≡ true = k.1 p.0.within in let f : c.is_at_most.result ≡ false = c.if-not-is_at_most.true in cc) in
    IsExcess-unique (slope_surface a r x) c.args.top None (slope_excess a r x c.args.top) none (slope_excess_is a r x c.args.top c.requires.candidate.proper c.requires.top)

-- what the search says, of the slope from the runway
abbrev IsOver : Fraction → ℤ → ℤ → ℤ → Option ℕ → Type 0
IsOver d ratio base top e = IsExcess (covering_surface (λ z. IsAboveRootOf d (run_of ratio base z)) (λ z. IsAtLeastRootOf d (run_of ratio base z))) top e

same_limit : (d d' : Fraction) (k k' b b' top : ℤ) (e : Option ℕ) → d ≡ d' → k ≡ k' → b ≡ b' → IsOver d k b top e → IsOver d' k' b' top e
same_limit d d' k k' b b' top e p q s h =
    subst (λ (y : ℤ). IsOver d' k' y top e) s (subst (λ (y : ℤ). IsOver d' y b top e) q (subst (λ (y : Fraction). IsOver y k b top e) p h))

pub returns : goal.returns
returns c =
    let a = c.args.airport.now in
    let r = c.args.runway.now.runway.now in
    let x = c.args.point.now in
    let limit = c.limit.result in
    let base = c.elevation-base in
    let fr : FitsSigned w64 c.range.result = omega (arith, ints) in
    let ft : FitsSigned w64 c.args.top = c.ranges.top in
    let fb : FitsSigned w64 base.result = omega (arith, ints, base.ensures.size) in
    let d = distance_is x c.args.runway.now _ c.requires.candidate c.distance-distance.ensures in
    let t : IsTrue c.is_at_most.result ↔ IsAtLeastRootOf (fraction c.distance-distance.result) c.range.result = simp to_z-of_z at c.is_at_most.ensures in
    let k = within c.is_at_most.result (fraction c.distance-distance.result) (distance_of x r) c.range.result (range_of (sub_of a.runways)) d (c.range.ensures ∙ ap range_of c.requires.sub) t in
    let h : IsOver (fraction limit.distance) limit.ratio limit.base c.args.top c.excess.result = simp to_z-of_z at c.excess.ensures.excess in
    let b : limit.base ≡ base.result = simp to_z-of_z at c.limit.ensures.base in
    let over = same_limit (fraction limit.distance) (distance_of x r) limit.ratio (ratio_of (sub_of a.runways)) limit.base (elevation_of x r) c.args.top c.excess.result
    (c.limit.ensures.distance ∙ d) (c.limit.ensures.ratio ∙ ap ratio_of c.requires.sub) (b ∙ base.ensures.value) h in
    IsExcess-unique (slope_surface a r x) c.args.top c.excess.result (slope_excess a r x c.args.top)
    (IsExcess-covered (slope_surface a r x) c.args.top c.excess.result (record { described = c.requires.described; within = k.0 c.if-not-is_at_most.false }) over)
    (slope_excess_is a r x c.args.top c.requires.candidate.proper c.requires.top)
