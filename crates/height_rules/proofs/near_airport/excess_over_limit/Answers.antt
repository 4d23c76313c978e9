use Rattle.std.proofs.Common.{◌≡◌, ◌≤ℤ◌, ◌-ℤ◌, ◌*ℤ◌, pos, ℤ, ℕ, arith, FitsSigned, w64, to_z-of_z, subst, sym, ap}
use Rattle.std.specs.Int.{int_max}
use Rattle.std.proofs.lemmas.Int.{ints}
use Rattle.grid_exact.specs.Excess.{IsExcess, covering_surface}
use Rattle.grid_exact.specs.Root.{AtLeastRoot}
use Rattle.grid_exact.proofs.Booleans.{not_from_false}
use Rattle.grid_exact.specs.Vector.{length_of}
use Rattle.grid_exact.specs.declared.point.Point.{Point}
use Rattle.grid_exact.proofs.ExcessLemmas.{IsExcess-covered}
use Rattle.grid_exact.proofs.TestFacts.{le_in}
use Rattle.airfields.specs.Sites.{Site}
use Rattle.airfields.specs.declared.airfield.Airport.{Airport}
use Rattle.height_rules.specs.Limits.{IsAtLimit, IsAboveLimit, inner_limit}
use Rattle.height_rules.specs.NearAirport.{near_surface, base_of, square_distance}
use Rattle.height_rules.specs.NearAreas.{IsLimited}
use Rattle.height_rules.specs.Heights.{standards_top}
use Rattle.height_rules.specs.declared.limit.TheConstants.{INNER_HEIGHT, NAUTICAL_MILE}
use Rattle.height_rules.specs.declared.near_airport.TheConstants.{OUTER_HUNDREDTHS}
use Rattle.height_rules.proofs.NearFacts.{not_over}
use Rattle.height_rules.proofs.near_airport.excess_over_limit.Goals as goal

-- a base and a square of a distance that were worked out are those of the airport
base_is : (a : Airport) (s : Site) (arp : Point) (elevation base : ℤ) → IsLimited a arp elevation → base ≡ int_max s.terrain elevation → base ≡ base_of a s
base_is a s arp elevation base h e = subst (λ (z : ℤ). base ≡ int_max s.terrain z) (sym h.elevation_is) e

square_is : (a : Airport) (s : Site) (arp : Point) (elevation : ℤ) (square : ℕ) → IsLimited a arp elevation → square ≡ length_of (s.at.x -ℤ arp.x) (s.at.y -ℤ arp.y) → square ≡ square_distance a s
square_is a s arp elevation square h e = subst (λ (x : ℤ). square ≡ length_of (s.at.x -ℤ x) (s.at.y -ℤ a.arp.y)) (sym h.x_is) (subst (λ (y : ℤ). square ≡ length_of (s.at.x -ℤ arp.x) (s.at.y -ℤ y)) (sym h.y_is) e)

pub returns-then-top-base-clause-exact : goal.returns-then-top-base-clause-exact
returns-then-top-base-clause-exact c = λ a k p.
    let s = c.args.filing.now in
    let fe : FitsSigned w64 c.args.elevation = c.ranges.elevation in
    let top = c.args.top in
    let fr : FitsSigned w64 top = c.ranges.top in
    let fb : FitsSigned w64 c.base-base.result = omega (arith, ints) in
    let ft : FitsSigned w64 (top -ℤ INNER_HEIGHT) = omega (arith, ints, c.requires.level.low, c.requires.level.high) in
    let h : (top -ℤ INNER_HEIGHT) ≤ℤ c.base-base.result = le_in (top -ℤ INNER_HEIGHT) c.base-base.result (simp to_z-of_z at c.if-top-base.true) in
    let base = base_is a s c.args.arp.now c.args.elevation c.base-base.result k (simp to_z-of_z at c.base-base.ensures.value) in
    let low : standards_top s ≤ℤ inner_limit (base_of a s) = rw (← c.requires.top, ← base) (omega (arith, ints, h)) in
    not_over (square_distance a s) (base_of a s) (standards_top s) low p.1

pub returns-then-not-is_within-clause-exact : goal.returns-then-not-is_within-clause-exact
returns-then-not-is_within-clause-exact c = λ a k p.
    let s = c.args.filing.now in
    let square = c.square_distance-square.result in
    let at : c.filing.inside.at ≡ s.at = ap (λ (q : Site). q.at) c.filing.view_is in
    let square_e = square_is a s c.args.arp.now c.args.elevation square k (subst (λ (p : Point). square ≡ length_of (p.x -ℤ c.args.arp.now.x) (p.y -ℤ c.args.arp.now.y)) at c.square_distance-square.ensures.value) in
    not_from_false c.is_within.result c.is_within.ensures.reach.1 c.if-not-is_within.true (subst (λ (d : ℕ). AtLeastRoot (OUTER_HUNDREDTHS *ℤ NAUTICAL_MILE) (pos 100) d) (sym square_e) p.0.within)

pub returns-clause-exact : goal.returns-clause-exact
returns-clause-exact c = λ a k.
    let s = c.args.filing.now in
    let fe : FitsSigned w64 c.args.elevation = c.ranges.elevation in
    let top = c.args.top in
    let base = c.base-base.result in
    let square = c.square_distance-square.result in
    let at : c.filing.inside.at ≡ s.at = ap (λ (q : Site). q.at) c.filing.view_is in
    let ft : FitsSigned w64 top = c.ranges.top in
    let fb : FitsSigned w64 base = omega (arith, ints) in
    let base_e = base_is a s c.args.arp.now c.args.elevation base k (simp to_z-of_z at c.base-base.ensures.value) in
    let square_e = square_is a s c.args.arp.now c.args.elevation square k (subst (λ (p : Point). square ≡ length_of (p.x -ℤ c.args.arp.now.x) (p.y -ℤ c.args.arp.now.y)) at c.square_distance-square.ensures.value) in
    let h : IsExcess (covering_surface (IsAboveLimit square base) (IsAtLimit square base)) top c.excess_at.result = simp to_z-of_z at c.excess_at.ensures.exact in
    let over_site = subst (λ (d : ℕ). IsExcess (covering_surface (IsAboveLimit d base) (IsAtLimit d base)) top c.excess_at.result) square_e h in
    let over_base = subst (λ (b : ℤ). IsExcess (covering_surface (IsAboveLimit (square_distance a s) b) (IsAtLimit (square_distance a s) b)) top c.excess_at.result) base_e over_site in
    let within = rw square_e at (c.is_within.ensures.reach.0 c.if-not-is_within.false) in
    IsExcess-covered (near_surface a s) (standards_top s) c.excess_at.result (record { within = within; described = k.limit.described; long = k.limit.long })
    (subst (λ (t : ℤ). IsExcess (covering_surface (IsAboveLimit (square_distance a s) (base_of a s)) (IsAtLimit (square_distance a s) (base_of a s))) t c.excess_at.result) c.requires.top over_base)
