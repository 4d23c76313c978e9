-- The dates of an act that has a record are within the limit.
use Rattle.std.proofs.Common.{Option, Some, None, IfSome}
use Rattle.jiff_core.specs.declared.civil.date.Date.{Date}
use Rattle.determination_dates.specs.Days.{IsLimited}
use Rattle.wire_values.specs.Words.{IsAnyLimited}
use Rattle.wire_requests.specs.Limits.{IsValidSubmission}
use Rattle.case_requests.specs.declared.submission.Submission.{Submission}
use Rattle.case_acts.specs.Cases.{HasLimitedDates}

pub any_limited : (d : Option Date) → IsAnyLimited d → IfSome d IsLimited
any_limited None h = tt
any_limited (Some d) h = h

pub notice_dates : (n : Submission) → IsValidSubmission n → HasLimitedDates n
notice_dates n h = record { start = h.start; permit = any_limited n.permit h.permit; fcc = any_limited n.fcc h.fcc }
