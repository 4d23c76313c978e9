-- Cases whose dates are within the limit.
use Rattle.std.specs.Prelude.{IfSome}
use Rattle.determination_dates.specs.Days.{IsLimited}
use Rattle.determination_dates.specs.Effects.{IsKept}
use Rattle.case_requests.specs.declared.submission.Submission.{Submission}
use Rattle.case_records.specs.declared.case.KeptCase.{KeptCase}
use Rattle.case_acts.specs.declared.effect.Step.{Step}
use Rattle.case_acts.specs.declared.effect.Step.TheVariants as steps

-- the dates in a notice are within the limit
pub record HasLimitedDates (n : Submission) : Type 0 where
  pub start : IsLimited n.start
  pub permit : IfSome n.permit IsLimited
  pub fcc : IfSome n.fcc IsLimited

-- the dates of a case that acts read are within the limit
pub record IsSound (c : KeptCase) : Type 0 where
  pub received : IsLimited c.received
  pub determination : IfSome c.life.determination IsKept

-- the dates that a step stores are within the limit
abbrev pub IsSoundStep : Step → Type 0
IsSoundStep (steps.Amended a) = Unit {0}
IsSoundStep (steps.DaySet d) = IsLimited d
IsSoundStep (steps.DayClosed d) = IsLimited d
IsSoundStep (steps.CaseFiled c) = IsSound c
IsSoundStep (steps.FormPut number day) = IsLimited day
IsSoundStep (steps.LifePut number life) = IfSome life.determination IsKept
IsSoundStep (steps.Issued number site life list) = IfSome life.determination IsKept
