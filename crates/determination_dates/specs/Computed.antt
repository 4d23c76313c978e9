-- The dates of Deadlines, Notices, Effects and Determinations as functions that compute; a date outside the limit gives None.
use Rattle.std.specs.Prelude.{◌≡◌, Result, MatchResult, ◌+◌, ◌*◌, ℕ, zero, suc, ℤ, pos, ◌+ℤ◌, ◌&&◌, not, nat_lt, Bool, true, false, Option, Some, None, if◌then◌else◌, List, length}
use Rattle.std.specs.Option.{option_map}
use Rattle.jiff_core.specs.declared.civil.date.Date.{Date}
use Rattle.jiff_core.specs.Date.{epoch_day}
use Rattle.jiff_core.specs.Calendar.{weekday_number}
use Rattle.jiff_span.specs.Months.{add_months}
use Rattle.determination_dates.specs.declared.timely.Timeliness.{Timeliness}
use Rattle.determination_dates.specs.declared.timely.Timeliness.TheVariants.{Emergency}
use Rattle.determination_dates.specs.declared.determination.Decision.{Decision}
use Rattle.determination_dates.specs.declared.determination.Record.{Record}
use Rattle.determination_dates.specs.declared.deadline.TheConstants.{PETITION_DAYS}
use Rattle.determination_dates.specs.declared.notice.TheConstants.{FORM_DAYS}
use Rattle.determination_dates.specs.Closed.{is_closed}
use Rattle.determination_dates.specs.Notices.{days_late, by_days}
use Rattle.determination_dates.specs.Effects.{expiry_day, last_day}
use Rattle.determination_dates.specs.Determinations.{fresh_record, ordinary_day, record_affirmed_on, record_extended_to, record_revised_as}
use Rattle.determination_dates.specs.Dates.{date_on, is_day, limited_date}

-- a call returns the computed value, or an error exactly where there is none
abbrev pub Computes : {T E : Type 0} → Result T E → Option T → Type 0
Computes result o = MatchResult result (λ x. o ≡ Some x) (λ _. o ≡ None)

-- a function of a value, where there is one
abbrev pub with_some : {T U : Type 0} → Option T → (T → Option U) → Option U
with_some None f = None
with_some (Some x) f = f x

-- ---- the last day for a petition

-- whether the government is open on the day
abbrev pub is_open : List Date → ℤ → Bool
is_open closed z = nat_lt (weekday_number z) 5 && not (is_closed closed z)

-- the first open day at or after z, among this number of days
abbrev pub first_open : ℕ → List Date → ℤ → ℤ
first_open zero closed z = z
first_open (suc n) closed z = if is_open closed z then z else first_open n closed (z +ℤ pos 1)

-- of three consecutive days one is no Saturday and no Sunday, so searching three more days for each closed day finds an open one
abbrev pub search_days : List Date → ℕ
search_days closed = 3 * (length closed + 1)

-- the deadline, whether or not it is within the limit
abbrev pub deadline_day : List Date → ℤ → ℤ
deadline_day closed issued = first_open (search_days closed) closed (issued +ℤ PETITION_DAYS)

abbrev pub deadline_date : List Date → Date → Option Date
deadline_date closed issued = limited_date (deadline_day closed (epoch_day issued))

-- ---- a notice

abbrev pub timeliness_of : Date → Date → Option Date → Bool → Option Timeliness
timeliness_of received start permit true = option_map Emergency (limited_date (epoch_day received +ℤ FORM_DAYS))
timeliness_of received start permit false = Some (by_days (days_late received start permit))

-- ---- a determination

-- the record, where its expiry is within the limit or absent
abbrev pub within_range : Option ℤ → Record → Option Record
within_range None r = Some r
within_range (Some z) r = if is_day z then Some r else None

abbrev pub in_range : Record → Option Record
in_range r = within_range (expiry_day r) r

-- the record of a determination that may be petitioned up to a deadline
abbrev pub reviewable_record : Date → Decision → Date → Option Record
reviewable_record issued decision deadline =
    with_some (limited_date (ordinary_day (epoch_day issued) (Some (epoch_day deadline)))) (λ ordinary. in_range (fresh_record issued decision (Some deadline) ordinary))

-- the record made at issuance
abbrev pub issued_record : Date → Decision → Bool → List Date → Option Record
issued_record issued decision true closed = with_some (deadline_date closed issued) (reviewable_record issued decision)
issued_record issued decision false closed = in_range (fresh_record issued decision None issued)

-- the expiry, and the last day for an extension, as dates
abbrev pub expiry_date : Record → Option Date
expiry_date r = with_some (expiry_day r) date_on

abbrev pub last_date : Record → Option Date
last_date r = with_some (last_day r) date_on

-- the record after an affirmation on a day
abbrev pub affirmed_record : Date → Record → Option Record
affirmed_record day r = in_range (record_affirmed_on day r)

-- the record after an extension by a number of months
abbrev pub extended_record : ℕ → Record → Option Record
extended_record months r = with_some (expiry_date r) (λ e. option_map (λ x. record_extended_to x r) (limited_date (add_months e (pos months))))

-- the record after a revision on a day
abbrev pub revised_record : Date → Decision → Bool → List Date → Record → Option Record
revised_record day decision reviewable closed r = option_map (λ x. record_revised_as x r) (issued_record day decision reviewable closed)
