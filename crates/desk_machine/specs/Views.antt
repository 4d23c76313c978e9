-- A case, as the reply to a query shows it.
use Rattle.std.specs.Prelude.{ℕ, Bool, Option, Some, None}
use Rattle.std.specs.Option.{option_map}
use Rattle.jiff_core.specs.declared.civil.date.Date.{Date}
use Rattle.jiff_core.specs.Date.{epoch_day}
use Rattle.determination_dates.specs.declared.life.Status.{Status}
use Rattle.determination_dates.specs.declared.life.Status.TheVariants.{Awaiting}
use Rattle.determination_dates.specs.Statuses.{status_of}
use Rattle.determination_dates.specs.Effects.{effective_date}
use Rattle.determination_dates.specs.Computed.{with_some, expiry_date, last_date}
use Rattle.case_records.specs.declared.case.KeptCase.{KeptCase}
use Rattle.case_records.specs.declared.case.CaseView.{CaseView}

-- the status of a case on the desk's day; cases exist only where the desk has a day
abbrev pub status_on : Option Date → KeptCase → Status
status_on None c = Awaiting
status_on (Some today) c = status_of c.life (epoch_day today)

abbrev pub view_of : Option Date → Bool → ℕ → KeptCase → CaseView
view_of day marked number c =
    record {
      case = number;
      status = status_on day c;
      decision = option_map (λ r. r.decision) c.life.determination;
      issued = option_map (λ r. r.issued) c.life.determination;
      deadline = with_some c.life.determination (λ r. r.deadline);
      effective = with_some c.life.determination effective_date;
      expiry = with_some c.life.determination expiry_date;
      last_day = with_some c.life.determination last_date;
      marked = marked;
    }
