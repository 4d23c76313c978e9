-- The outcomes that a request can have, kind by kind.
use Rattle.std.specs.Prelude.{ℕ, ◌^◌, ◌<◌, ◌≤◌, ◌≡◌, ◌≢◌, List, Bool, true, false, Option, Some, None, MatchOption}
use Rattle.jiff_core.specs.declared.civil.date.Date.{Date}
use Rattle.determination_dates.specs.Days.{IsLimited}
use Rattle.determination_dates.specs.declared.timely.Timeliness.{Timeliness}
use Rattle.determination_dates.specs.declared.timely.Timeliness.TheVariants as timeliness
use Rattle.case_requests.specs.declared.act.Act.{Act}
use Rattle.case_requests.specs.declared.act.Act.TheVariants as acts
use Rattle.case_records.specs.declared.outcome.Outcome.{Outcome}
use Rattle.case_records.specs.declared.outcome.Outcome.TheVariants as outcomes
use Rattle.wire_values.specs.Words.{IsAnyLimited}
use Rattle.wire_values.specs.declared.plain.Plain.TheVariants as plains
use Rattle.wire_requests.specs.Limits.{IsCase}
use Rattle.wire_requests.specs.Spellings.{plain_of}
use Rattle.wire_replies.specs.Outcomes.{outcome_text}
use Rattle.row_cases.specs.Entries.{IsList}

-- a late notice is late by at least a day
abbrev pub IsTimeliness : Timeliness → Type 0
IsTimeliness timeliness.Timely = Unit {0}
IsTimeliness (timeliness.Late days) = (1 ≤ days) × (days < 2 ^ 32)
IsTimeliness (timeliness.Emergency due) = IsLimited due

-- a number of days after the application to the FCC, where there is one
abbrev pub AreDays : Option ℕ → Type 0
AreDays None = Unit {0}
AreDays (Some days) = days < 2 ^ 32

-- a reversed determination has no days
abbrev pub HasDays : Bool → Option Date → Option Date → Type 0
HasDays true effective expiry = IsAnyLimited effective × IsAnyLimited expiry
HasDays false effective expiry = (effective ≡ None) × (expiry ≡ None)

-- a notice opened a case
abbrev pub IsFiled : Outcome → Type 0
IsFiled (outcomes.Filed number in_time fcc explained) = IsCase number × IsTimeliness in_time × AreDays fcc
IsFiled _ = ⊥

-- an act in the case of this number: its form was received, its determination was issued or revised, its petition was decided, its expiry
-- was extended, or its expiry was set by the FCC's decision

abbrev pub IsFormCame : ℕ → Outcome → Type 0
IsFormCame n (outcomes.FormCame number late) = (number ≡ n) × (late < 2 ^ 32)
IsFormCame n _ = ⊥

abbrev pub IsDetermined : ℕ → Outcome → Type 0
IsDetermined n (outcomes.Determined number decision last issued deadline effective expiry list) =
    (number ≡ n) × (last < 2 ^ 64) × IsLimited issued × IsAnyLimited deadline × IsAnyLimited effective × IsAnyLimited expiry × IsList list
IsDetermined n _ = ⊥

abbrev pub IsRevised : ℕ → Outcome → Type 0
IsRevised n (outcomes.Revised number decision last issued deadline effective expiry list) =
    (number ≡ n) × (last < 2 ^ 64) × IsLimited issued × IsAnyLimited deadline × IsAnyLimited effective × IsAnyLimited expiry × IsList list
IsRevised n _ = ⊥

abbrev pub IsDisposed : ℕ → Outcome → Type 0
IsDisposed n (outcomes.Disposed number affirmed effective expiry) = (number ≡ n) × HasDays affirmed effective expiry
IsDisposed n _ = ⊥

abbrev pub IsExtended : ℕ → Outcome → Type 0
IsExtended n (outcomes.Extended number expiry last_day) = (number ≡ n) × IsLimited expiry × IsLimited last_day
IsExtended n _ = ⊥

abbrev pub IsFccAct : ℕ → Outcome → Type 0
IsFccAct n (outcomes.Fcc number expiry) = (number ≡ n) × IsLimited expiry
IsFccAct n _ = ⊥

-- the outcomes that an act can have: those of its own kind, in its own case
abbrev pub CanLeadTo : Act → Outcome → Type 0
CanLeadTo (acts.Amend amendment) v = v ≡ outcomes.Plain (plain_of amendment)
CanLeadTo (acts.Day date) v = v ≡ outcomes.Plain plains.Day
CanLeadTo (acts.Closed date) v = v ≡ outcomes.Plain plains.Closed
CanLeadTo (acts.File submission) v = IsFiled v
CanLeadTo (acts.Form n) v = IsFormCame n v
CanLeadTo (acts.Determine n finding) v = IsDetermined n v
CanLeadTo (acts.Petition n party) v = v ≡ outcomes.Petitioned n
CanLeadTo (acts.Dispose n affirm) v = IsDisposed n v
CanLeadTo (acts.Extend n months started filed warranted) v = IsExtended n v
CanLeadTo (acts.Revise n started terrain height finding) v = IsRevised n v
CanLeadTo (acts.Fcc n completion) v = IsFccAct n v
CanLeadTo (acts.Abandon n) v = v ≡ outcomes.Abandoned n

-- the outcome of this kind that the text spells; none exactly where it spells none
abbrev pub Reads : (Outcome → Type 0) → List ℕ → Option Outcome → Type 0
Reads IsKind text read = MatchOption read ((v : Outcome) → IsKind v → text ≢ outcome_text v) (λ v. IsKind v × (text ≡ outcome_text v))
