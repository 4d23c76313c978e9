use Rattle.std.proofs.Common.{arith, Some, option_map, ◌≡◌, pos, ◌+ℤ◌}
use Rattle.std.proofs.lemmas.Grind.{common_steps}
use Rattle.jiff_core.specs.Date.{epoch_day}
use Rattle.jiff_core.proofs.SignedLemmas.{signed_arith}
use Rattle.determination_dates.specs.Days.{IsExpiryDay}
use Rattle.determination_dates.specs.Effects.{last_day}
use Rattle.determination_dates.proofs.ComputedFacts.{last_is}
use Rattle.determination_dates.proofs.effects.last_extension_day.Goals as goal

pub returns-in-Some-clause-date : goal.returns-in-Some-clause-date
returns-in-Some-clause-date c =
    let value : option_map epoch_day (Some c.days_later.result) ≡ last_day c.args.r.now = grind (arith, common_steps) in
    let bound : IsExpiryDay (epoch_day c.days_later.result +ℤ pos 15) = omega (arith, signed_arith, c.days_later.ensures, c.in-Some.ensures.bound) in
    last_is c.args.r.now (Some c.days_later.result) bound value
