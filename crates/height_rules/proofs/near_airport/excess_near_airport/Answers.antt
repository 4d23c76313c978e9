use Rattle.std.proofs.Common.{◌≡◌, None, sym, refl, subst, arith, to_z, of_z, w64, FitsSigned, to_z-of_z}
use Rattle.std.proofs.lemmas.Int.{ints}
use Rattle.grid_exact.specs.Excess.{IsExcess}
use Rattle.airfields.specs.Sites.{Site}
use Rattle.height_rules.specs.Heights.{standards_top}
use Rattle.height_rules.specs.NearAirport.{near_excess, near_surface}
use Rattle.height_rules.specs.NearAreas.{IsLimited}
use Rattle.height_rules.proofs.AreaFacts.{not_limited, skipped}
use Rattle.height_rules.proofs.near_airport.excess_near_airport.Goals as goal

pub returns-then-not-has_limit-clause-exact : goal.returns-then-not-has_limit-clause-exact
returns-then-not-has_limit-clause-exact c = λ p. not_limited c.args.airport.now c.args.filing.now c.has_limit.result c.has_limit.ensures c.if-not-has_limit.true p.0

pub returns-then-not-has_limit-clause-value : goal.returns-then-not-has_limit-clause-value
returns-then-not-has_limit-clause-value c =
    let a = c.args.airport.now in
    sym (skipped a None (λ s n. not_limited a s c.has_limit.result c.has_limit.ensures c.if-not-has_limit.true n) c.args.filing.now (λ k. k))

pub returns-clause-exact : goal.returns-clause-exact
returns-clause-exact c =
    let a = c.args.airport.now in
    let r = c.excess_near_limited.result in
    let fe : FitsSigned w64 c.elevation.result = omega (arith, ints) in
    let e : a.elevation ≡ to_z w64 (of_z w64 c.elevation.result) = simp to_z-of_z (sym c.elevation.ensures) in
    let k : IsLimited a a.arp (to_z w64 (of_z w64 c.elevation.result)) = record { limit = c.has_limit.ensures.0 c.if-not-has_limit.false; x_is = refl; y_is = refl; elevation_is = e } in
    subst (λ (s : Site). IsExcess (near_surface a s) (standards_top s) r) c.of.ensures (c.excess_near_limited.ensures.exact a k)

pub returns-clause-value : goal.returns-clause-value
returns-clause-value c =
    let a = c.args.airport.now in
    let r = c.excess_near_limited.result in
    let fe : FitsSigned w64 c.elevation.result = omega (arith, ints) in
    let e : a.elevation ≡ to_z w64 (of_z w64 c.elevation.result) = simp to_z-of_z (sym c.elevation.ensures) in
    let k : IsLimited a a.arp (to_z w64 (of_z w64 c.elevation.result)) = record { limit = c.has_limit.ensures.0 c.if-not-has_limit.false; x_is = refl; y_is = refl; elevation_is = e } in
    subst (λ (s : Site). r ≡ near_excess a s) c.of.ensures (c.excess_near_limited.ensures.value a k)
