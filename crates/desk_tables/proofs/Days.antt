-- The rows of the desk's days.
use Rattle.std.proofs.Common.{◌≡◌, ◌≢◌, refl, sym, ap, ◌∙◌, List, Option, Some, Bool, true, false, drop}
use Rattle.std.specs.Prelude.{◌||◌}
use Rattle.std.specs.Ordering.{int_eq}
use Rattle.std.proofs.lemmas.Bool.Decides.{Decides-int_eq}
use Rattle.jiff_core.specs.declared.civil.date.Date.{Date}
use Rattle.jiff_core.specs.Date.{epoch_day}
use Rattle.jiff.proofs.Family.{same_date}
use Rattle.determination_dates.specs.Days.{IsLimited}
use Rattle.determination_dates.specs.Closed.{is_closed, with_day}
use Rattle.determination_dates.specs.Text.{date_text}
use Rattle.determination_dates.proofs.Texts.{one_date}
use Rattle.determination_dates.proofs.ClosedFacts.{closed_with}
use Rattle.row_register.specs.Desk.{desk_row}
use Rattle.row_register.specs.declared.desk.DeskRow.TheVariants as rows
use Rattle.desk_tables.specs.Tables.{Found, AreDays, DayName, Format, Today, ClosedOn, IsDayName, day_key, day_found, text_if_shown}
use Rattle.desk_tables.proofs.Named.{IsPutAt, HasOneName, named_put}

pub one_day_name : HasOneName IsDayName day_key
one_day_name Format Format h k e = refl
one_day_name Format Today h k e = absurd (cc (e))
one_day_name Format (ClosedOn d) h k e = absurd (cc (e))
one_day_name Today Format h k e = absurd (cc (e))
one_day_name Today Today h k e = refl
one_day_name Today (ClosedOn d) h k e = absurd (cc (e))
one_day_name (ClosedOn d) Format h k e = absurd (cc (e))
one_day_name (ClosedOn d) Today h k e = absurd (cc (e))
one_day_name (ClosedOn c) (ClosedOn d) h k e = ap ClosedOn (one_date c d h k (ap (drop 7) e))

module _ (f : Bool) (day : Option Date) (closed : List Date) (old new : Found) (are : AreDays f day closed old) where
  -- the format is put
  pub format_put : IsPutAt (day_key Format) (Some (desk_row rows.Format)) old new → AreDays true day closed new
  format_put put = named_put IsDayName day_key (day_found f day closed) (day_found true day closed) old new Format one_day_name are tt put (λ m h apart. by m apart)
    where
      by : (m : DayName) → m ≢ Format → day_found true day closed m ≡ day_found f day closed m
      by Format apart = absurd (apart refl)
      by Today apart = refl
      by (ClosedOn d) apart = refl

  -- the desk's day is put
  pub today_put : (d : Date) → IsPutAt (day_key Today) (Some (date_text d)) old new → AreDays f (Some d) closed new
  today_put d put = named_put IsDayName day_key (day_found f day closed) (day_found f (Some d) closed) old new Today one_day_name are tt put (λ m h apart. by m apart)
    where
      by : (m : DayName) → m ≢ Today → day_found f (Some d) closed m ≡ day_found f day closed m
      by Format apart = refl
      by Today apart = absurd (apart refl)
      by (ClosedOn c) apart = refl

  -- a closed day is put
  pub closed_put : (d : Date) → IsLimited d → IsPutAt (day_key (ClosedOn d)) (Some (desk_row (rows.Closed d))) old new → AreDays f day (with_day d closed) new
  closed_put d limited put =
      named_put IsDayName day_key (day_found f day closed) (day_found f day (with_day d closed)) old new (ClosedOn d) one_day_name are limited
      (record { here = put.here ∙ sym (ap (λ b. text_if_shown b (desk_row (rows.Closed d))) (closed_with d closed (epoch_day d) ∙ ap (λ b. b || is_closed closed (epoch_day d)) ((Decides-int_eq (epoch_day d) (epoch_day d)).1 refl))); elsewhere = put.elsewhere })
      (λ m h apart. by m apart)
    where
      other : (c : Date) (b : Bool) → int_eq (epoch_day c) (epoch_day d) ≡ b → ClosedOn c ≢ ClosedOn d → (b || is_closed closed (epoch_day c)) ≡ is_closed closed (epoch_day c)
      other c true e apart = absurd (apart (ap ClosedOn (same_date c d ((Decides-int_eq (epoch_day c) (epoch_day d)).0 e))))
      other c false e apart = refl

      by : (m : DayName) → m ≢ ClosedOn d → day_found f day (with_day d closed) m ≡ day_found f day closed m
      by Format apart = refl
      by Today apart = refl
      by (ClosedOn c) apart = ap (λ b. text_if_shown b (desk_row (rows.Closed c))) (closed_with d closed (epoch_day c) ∙ other c (int_eq (epoch_day c) (epoch_day d)) refl apart)
