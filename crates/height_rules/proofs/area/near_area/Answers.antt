use Rattle.std.proofs.Common.{None, Some}
use Rattle.height_rules.proofs.AreaFacts.{near_has, not_limited, skipped}
use Rattle.height_rules.proofs.area.near_area.Goals as goal

pub returns-then-not-has_limit-clause-skips : goal.returns-then-not-has_limit-clause-skips
returns-then-not-has_limit-clause-skips c =
    skipped c.args.airport.now None (λ s n. not_limited c.args.airport.now s c.has_limit.result c.has_limit.ensures c.if-not-has_limit.true n)

pub returns-clause-skips : goal.returns-clause-skips
returns-clause-skips c = skipped c.args.airport.now (Some c.disc_box.result) (λ s n. near_has c.args.airport.now c.disc_box.result s c.disc_box.ensures n)
