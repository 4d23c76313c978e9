use Rattle.std.proofs.Common.{arith, sym, Some, option_map, ◌≡◌}
use Rattle.jiff_core.proofs.SignedLemmas.{signed_arith}
use Rattle.determination_dates.proofs.EffectFacts.{effective_near}
use Rattle.std.proofs.lemmas.Grind.{common_steps}
use Rattle.jiff_core.specs.Date.{epoch_day}
use Rattle.determination_dates.specs.Days.{IsLimited, IsExpiryDay}
use Rattle.determination_dates.specs.Effects.{expiry_day}
use Rattle.determination_dates.proofs.ComputedFacts.{expiry_is}
use Rattle.determination_dates.proofs.effects.expiry.Goals as goal

pub returns-in-Some-effective-clause-bound : goal.returns-in-Some-effective-clause-bound
returns-in-Some-effective-clause-bound c =
    let l = effective_near c.args.r.now c.in-Some-effective.day c.requires (sym c.in-Some-effective.ensures) in
    omega (arith, signed_arith, l, c.months_later.ensures.bound, c.months_later.ensures.later)

pub returns-in-Some-clause-date : goal.returns-in-Some-clause-date
returns-in-Some-clause-date c =
    let value : option_map epoch_day (Some c.in-Some.day) ≡ expiry_day c.args.r.now = grind (arith, common_steps) in
    let limited : IsLimited c.in-Some.day = grind (arith, common_steps, c.requires.set_expiry) in
    let bound : IsExpiryDay (epoch_day c.in-Some.day) = omega (arith, signed_arith, limited) in
    expiry_is c.args.r.now (Some c.in-Some.day) bound value

pub returns-in-Some-effective-clause-date : goal.returns-in-Some-effective-clause-date
returns-in-Some-effective-clause-date c =
    let value : option_map epoch_day (Some c.months_later.result) ≡ expiry_day c.args.r.now = grind (arith, common_steps) in
    expiry_is c.args.r.now (Some c.months_later.result) (returns-in-Some-effective-clause-bound c) value
