-- A record is made at every issuance.
use Rattle.std.proofs.Common.{◌≡◌, refl, sym, ap, ◌∙◌, arith, ℕ, zero, suc, ◌+◌, ◌-◌, ◌<◌, inl, inr, Bool, true, false, Some, None, List, [], ◌∷◌, ℤ, pos, ◌+ℤ◌, ◌≤ℤ◌, ◌<ℤ◌}
use Rattle.std.specs.List.{All}
use Rattle.std.specs.Ordering.{int_eq}
use Rattle.std.proofs.lemmas.Int.{by_lt_z, ints}
use Rattle.std.proofs.lemmas.Bool.{cases_lt}
use Rattle.jiff_core.specs.declared.civil.date.Date.{Date}
use Rattle.jiff_core.specs.Calendar.{days_in_month, days_from_civil, weekday_number}
use Rattle.jiff_core.specs.Date.{epoch_day}
use Rattle.jiff_core.proofs.SignedLemmas.{signed_arith}
use Rattle.jiff_core.proofs.CalendarLemmas.{days_in_month_bounds, weekday_number-parts}
use Rattle.jiff_core.proofs.DateLemmas.{days_from_civil-day, days_from_civil-next_month, days_from_civil-next_year, days_from_civil-max}
use borrow.Author.Differences.{up, down}
use Rattle.determination_dates.specs.declared.determination.Decision.{Decision}
use Rattle.determination_dates.specs.declared.determination.Record.{Record}
use Rattle.determination_dates.specs.Days.{IsDay, IsLimited}
use Rattle.determination_dates.specs.Closed.{is_closed}
use Rattle.determination_dates.specs.Deadlines.{IsDeadline}
use Rattle.determination_dates.specs.Determinations.{fresh_record, ordinary_day, IsIssued}
use Rattle.determination_dates.specs.Computed.{deadline_day}
use Rattle.determination_dates.proofs.OpenDays.{deadline_is}

-- every date but the last has a next one
next_date : (d : Date) → epoch_day d <ℤ pos 2_932_896 → (e : Date) × (epoch_day e ≡ epoch_day d +ℤ pos 1)
next_date d h =
    let low = d.day_in in
    let month = d.month_in in
    let year = d.year_in in
    elim (cases_lt d.day (days_in_month d.year d.month)) [
      | inl lt ↦ (
        record { year = d.year; month = d.month; day = d.day + 1; year_in = d.year_in; month_in = d.month_in; day_in = (omega arith, omega (arith, lt)) },
        omega (arith, signed_arith, days_from_civil-day d.year d.month d.day (d.day + 1) low.0 (omega arith)),
      )
      | inr ge ↦
          let last : d.day ≡ days_in_month d.year d.month = omega (arith, ge, low) in
          elim (cases_lt d.month 12) [
            | inl lt ↦
                let long = days_in_month_bounds d.year (d.month + 1) in (
                  record { year = d.year; month = d.month + 1; day = 1; year_in = d.year_in; month_in = (omega arith, omega (arith, lt)); day_in = (omega arith, omega (arith, long)) },
                  days_from_civil-next_month d.year d.month d.day month.0 last,
                )
            | inr december ↦
                let twelve : d.month ≡ 12 = omega (arith, december, month) in
                let thirty_one : d.day ≡ 31 = rw twelve at last in
                let there : epoch_day d ≡ days_from_civil d.year 12 31 = rw (twelve, thirty_one) refl in
                by_lt_z d.year (pos 9999)
                (λ lt. (
                  record { year = d.year +ℤ pos 1; month = 1; day = 1; year_in = (omega (arith, signed_arith, year), omega (arith, signed_arith, lt)); month_in = (omega arith, omega arith); day_in = (omega arith, omega (arith, days_in_month_bounds (d.year +ℤ pos 1) 1)) },
                  days_from_civil-next_year d.year (d.year +ℤ pos 1) (omega (arith, signed_arith, year)) refl ∙ ap (λ z. z +ℤ pos 1) (sym there),
                ))
                (λ ge. let end : d.year ≡ pos 9999 = omega (arith, signed_arith, year, ge) in
                absurd (omega (arith, signed_arith, h, there ∙ ap (λ y. days_from_civil y 12 31) end, days_from_civil-max)))
          ]
    ]

-- and so a date any number of days on
date_after : (d : Date) (k : ℕ) → (epoch_day d +ℤ pos k) ≤ℤ pos 2_932_896 → (e : Date) × (epoch_day e ≡ epoch_day d +ℤ pos k)
date_after d zero h = (d, omega (arith, signed_arith))
date_after d (suc k) h =
    let r = date_after d k (omega (arith, signed_arith, h)) in
    let n = next_date r.0 (omega (arith, signed_arith, h, r.1)) in
    (n.0, omega (arith, signed_arith, n.1, r.1))

pub date_at : (d : Date) (z : ℤ) → epoch_day d ≤ℤ z → z ≤ℤ pos 2_932_896 → (e : Date) × (epoch_day e ≡ z)
date_at d z low high =
    let k = up z + down (epoch_day d) - (down z + up (epoch_day d)) in
    let e : epoch_day d +ℤ pos k ≡ z = omega (arith, signed_arith, low) in
    let r = date_after d k (rw e high) in
    (r.0, r.1 ∙ e)

apart : (y x : ℤ) → x <ℤ y → int_eq y x ≡ false
apart y x h = grind (arith, ints)

-- no day past the limit is closed
past : (closed : List Date) (z : ℤ) → All IsLimited closed → pos 376_199 <ℤ z → is_closed closed z ≡ false
past [] z h l = refl
past (c ∷ cs) z h l =
    let first : IsLimited c = h 0 c (omega arith) in
    let rest : All IsLimited cs = λ k d lt. h (suc k) d (omega (arith, lt)) in
    rw (apart z (epoch_day c) (omega (arith, signed_arith, first, l)), past cs z rest l) refl

-- so a deadline is at most 2999-12-31 and 301 days
soon : (closed : List Date) (issued z : ℤ) → All IsLimited closed → IsDay issued → IsDeadline closed issued z → z ≤ℤ pos 376_500
soon closed issued z h i d =
    let w : weekday_number (pos 376_500) < 5 = omega (arith, weekday_number-parts (pos 376_500), signed_arith) in
    d.least (pos 376_500) (omega (arith, signed_arith, i)) (w, past closed (pos 376_500) h (omega (arith, signed_arith)))

ordinary_bounds : (issued z : ℤ) → (issued +ℤ pos 30) ≤ℤ z → z ≤ℤ pos 376_500 → IsDay issued → (issued ≤ℤ ordinary_day issued (Some z)) × (ordinary_day issued (Some z) ≤ℤ pos 376_501)
ordinary_bounds issued z low high i = grind (arith, ints, signed_arith)

pub record_made : (issued : Date) (d : Decision) (t : Bool) (closed : List Date) → IsLimited issued → All IsLimited closed → (r : Record) × IsIssued issued d t closed r
record_made issued d false closed i h =
    (fresh_record issued d None issued, record { on = refl; as_decided = refl; deadline = tt; ordinary = refl; pending = refl; affirmed = refl; set_expiry = refl; extensions = refl; revisions = refl })
record_made issued d true closed i h =
    let last = deadline_day closed (epoch_day issued) in
    let l = deadline_is closed (epoch_day issued) in
    let s = soon closed (epoch_day issued) last h i l in
    let a = date_at issued last (omega (arith, signed_arith, l.later)) (omega (arith, signed_arith, s)) in
    let b = ordinary_bounds (epoch_day issued) last l.later s i in
    let o = date_at issued (ordinary_day (epoch_day issued) (Some last)) b.0 (omega (arith, signed_arith, b.1)) in (
      fresh_record issued d (Some a.0) o.0,
      record {
        on = refl;
        as_decided = refl;
        deadline = rw a.1 l;
        ordinary = rw a.1 o.1;
        pending = refl;
        affirmed = refl;
        set_expiry = refl;
        extensions = refl;
        revisions = refl;
      },
    )
