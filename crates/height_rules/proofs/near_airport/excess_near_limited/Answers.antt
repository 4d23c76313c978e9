use Rattle.std.proofs.Common.{FitsSigned, w64, to_z-of_z, subst}
use Rattle.grid_exact.specs.Excess.{IsExcess}
use Rattle.airfields.specs.Sites.{Site}
use Rattle.height_rules.specs.Heights.{standards_top}
use Rattle.height_rules.specs.NearAirport.{near_surface}
use Rattle.height_rules.proofs.NearFacts.{near_listed}
use Rattle.height_rules.proofs.near_airport.excess_near_limited.Goals as goal

pub returns-clause-value : goal.returns-clause-value
returns-clause-value c = λ a k.
    let fe : FitsSigned w64 c.args.elevation = c.ranges.elevation in
    let exact = simp to_z-of_z at c.excess_over_limit.ensures.exact in
    near_listed a c.args.structure.now c.excess_over_limit.result c.excess_over_limit.ensures.size (subst (λ (s : Site). IsExcess (near_surface a s) (standards_top s) c.excess_over_limit.result) c.filing.ensures (exact a k))
