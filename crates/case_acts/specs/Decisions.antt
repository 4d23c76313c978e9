-- The decision of a determination (77.31), and whether it may be petitioned (77.37(b)).
use Rattle.std.specs.Prelude.{Bool, true, false, not, ◌&&◌, ◌||◌, Option, Some, None, List}
use Rattle.airfields.specs.Sites.{Site}
use Rattle.finding_lists.specs.Verdicts.{is_obstruction}
use Rattle.finding_lists.specs.declared.finding.Finding.{Finding}
use Rattle.determination_dates.specs.declared.determination.Decision.{Decision}
use Rattle.determination_dates.specs.declared.determination.Decision.TheVariants.{NoHazard, Hazard}
use Rattle.case_requests.specs.declared.act.Impact.{Impact}
use Rattle.case_requests.specs.declared.act.Impact.TheVariants.{Substantial, NotSubstantial}

-- a substantial adverse effect is a hazard; every other finding, and none, is no hazard
abbrev pub decision_by : Option Impact → Decision
decision_by None = NoHazard
decision_by (Some NotSubstantial) = NoHazard
decision_by (Some Substantial) = Hazard

abbrev pub is_hazard : Decision → Bool
is_hazard NoHazard = false
is_hazard Hazard = true

-- every determination may be, except no hazard for a temporary structure or one that exceeds no standard
abbrev pub is_reviewable : Decision → Site → List Finding → Bool
is_reviewable decision site list = is_hazard decision || (not site.flags.temporary && is_obstruction list)
