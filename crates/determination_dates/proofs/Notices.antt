-- What makes a notice timely, late or urgent.
use Rattle.std.proofs.Common.{◌≡◌, Bool, true, false, true≢false, refl, sym, ◌∙◌, ℕ, zero, suc, Option, ◌+ℤ◌}
use Rattle.jiff_core.specs.declared.civil.date.Date.{Date}
use Rattle.jiff_core.specs.Date.{epoch_day}
use Rattle.determination_dates.specs.declared.timely.Timeliness.{Timeliness}
use Rattle.determination_dates.specs.declared.timely.Timeliness.TheVariants.{Emergency}
use Rattle.determination_dates.specs.declared.notice.TheConstants.{FORM_DAYS}
use Rattle.determination_dates.specs.Notices.{HasLimitedDue, IsTimeliness, by_days, days_late}

pub urgent : (received start : Date) (permit : Option Date) (e : Bool) (due : Date) → e ≡ true → epoch_day due ≡ epoch_day received +ℤ FORM_DAYS → IsTimeliness received start permit e (Emergency due)
urgent received start permit e due h k = record {
  planned = λ f. absurd (true≢false (sym h ∙ f));
  urgent = λ _. (due, refl, k);
}

pub planned : (received start : Date) (permit : Option Date) (e : Bool) (t : Timeliness) → e ≡ false → t ≡ by_days (days_late received start permit) → IsTimeliness received start permit e t
planned received start permit e t h k = record {
  planned = λ _. k;
  urgent = λ f. absurd (true≢false (sym f ∙ h));
}

pub due_by_days : (n : ℕ) → HasLimitedDue (by_days n)
due_by_days zero = tt
due_by_days (suc n) = tt
