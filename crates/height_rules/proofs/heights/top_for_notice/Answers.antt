use Rattle.std.proofs.Common.{◌≡◌, ap, arith, ◌∙◌}
use Rattle.std.proofs.lemmas.Int.{ints}
use Rattle.height_rules.specs.Heights.{allowance_of}
use Rattle.height_rules.proofs.HeightFacts.{three_parts}
use Rattle.height_rules.proofs.heights.top_for_notice.Goals as goal

pub returns-clause-value : goal.returns-clause-value
returns-clause-value c =
    let limits = c.filing.invariant in
    let eg : c.filing.inside.ground ≡ c.args.filing.now.terrain = ap (λ s. s.terrain) c.filing.view_is in
    let eh : c.filing.inside.height ≡ c.args.filing.now.height = ap (λ s. s.height) c.filing.view_is in
    let ea : c.allowance.result ≡ allowance_of c.args.filing.now = c.allowance.ensures.value in
    three_parts _ _ limits c.allowance.ensures.low c.allowance.ensures.high ∙ rw (eg, eh, ea)

pub returns-clause-low : goal.returns-clause-low
returns-clause-low c =
    let limits = c.filing.invariant in
    let eg : c.filing.inside.ground ≡ c.args.filing.now.terrain = ap (λ s. s.terrain) c.filing.view_is in
    rw (three_parts _ _ limits c.allowance.ensures.low c.allowance.ensures.high) (omega (arith, ints, eg, limits.height_least, c.allowance.ensures.low))
