-- Issuing, affirming, extending and revising a determination: 77.31, 77.33(a), 77.37 and 77.35.
use Rattle.std.specs.Prelude.{◌≡◌, ℕ, ◌+◌, Bool, true, false, Option, Some, None, ℤ, pos, ◌+ℤ◌, int_lt, nat_lt, if◌then◌else◌, List}
use Rattle.std.specs.Option.{option_map}
use Rattle.jiff_core.specs.declared.civil.date.Date.{Date}
use Rattle.jiff_core.specs.Date.{epoch_day}
use Rattle.jiff_span.specs.Months.{add_months}
use Rattle.determination_dates.specs.declared.determination.Decision.{Decision}
use Rattle.determination_dates.specs.declared.determination.Record.{Record}
use Rattle.determination_dates.specs.declared.determination.TheConstants.{EFFECTIVE_DAYS, MOST_EXTENSIONS}
use Rattle.determination_dates.specs.Deadlines.{IsDeadline}
use Rattle.determination_dates.specs.Effects.{expiry_day}

-- there is a deadline exactly where the determination may be petitioned
abbrev pub HasDeadline : List Date → Date → Bool → Option Date → Type 0
HasDeadline closed issued true (Some d) = IsDeadline closed (epoch_day issued) (epoch_day d)
HasDeadline closed issued true None = ⊥
HasDeadline closed issued false (Some d) = ⊥
HasDeadline closed issued false None = Unit {0}

-- the ordinary effective day: issuance where it may not be petitioned, else 40 days after it, or the day after the deadline where
-- the deadline is on or after that day
abbrev pub ordinary_day : ℤ → Option ℤ → ℤ
ordinary_day issued None = issued
ordinary_day issued (Some deadline) = if int_lt deadline (issued +ℤ EFFECTIVE_DAYS) then issued +ℤ EFFECTIVE_DAYS else deadline +ℤ pos 1

-- the record of a new determination
abbrev pub fresh_record : Date → Decision → Option Date → Date → Record
fresh_record issued decision deadline ordinary = record { issued = issued; decision = decision; deadline = deadline; ordinary = ordinary; pending = false; affirmed = None; set_expiry = None; extensions = 0; revisions = 0 }

-- the record made at issuance
pub record IsIssued (issued : Date) (decision : Decision) (reviewable : Bool) (closed : List Date) (r : Record) : Type 0 where
  pub on : r.issued ≡ issued
  pub as_decided : r.decision ≡ decision
  pub deadline : HasDeadline closed issued reviewable r.deadline
  pub ordinary : epoch_day r.ordinary ≡ ordinary_day (epoch_day issued) (option_map epoch_day r.deadline)
  pub pending : r.pending ≡ false
  pub affirmed : r.affirmed ≡ None
  pub set_expiry : r.set_expiry ≡ None
  pub extensions : r.extensions ≡ 0
  pub revisions : r.revisions ≡ 0

-- the record after an affirmation on a day ended the petition
abbrev pub record_affirmed_on : Date → Record → Record
record_affirmed_on day r = record r { pending = false; affirmed = Some day }

-- the count plus one, up to the greatest count
abbrev pub counted : ℕ → ℕ
counted n = if nat_lt n MOST_EXTENSIONS then n + 1 else n

-- the record after an extension up to the day x
abbrev pub record_extended_to : Date → Record → Record
record_extended_to x r = record r { set_expiry = Some x; extensions = counted r.extensions }

-- x is that many months after the expiry
abbrev pub IsExtension : Record → ℕ → Date → Type 0
IsExtension r months x = (e : Date) × (expiry_day r ≡ Some (epoch_day e)) × (epoch_day x ≡ add_months e (pos months))

-- the record that was issued in the place of another, on new facts: the extensions of that one still count, and there is one revision more
abbrev pub record_revised_as : Record → Record → Record
record_revised_as issued r = record issued { extensions = r.extensions; revisions = r.revisions + 1 }
