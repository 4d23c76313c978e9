-- The days of the requests.
use Rattle.std.proofs.Common.{arith, ◌≡◌, ◌≤ℤ◌, ℕ, ℤ, pos, refl}
use Rattle.jiff_core.specs.declared.civil.date.Date.{Date}
use Rattle.jiff_core.specs.Date.{IsYmd}
use Rattle.jiff_core.proofs.SignedLemmas.{signed_arith}
use Rattle.determination_dates.specs.Days.{IsLimited}
use Rattle.determination_dates.specs.Text.{date_text}
use Rattle.determination_dates.proofs.Limits.{limited_year}
use Rattle.determination_dates.proofs.Texts.{one_date}
use Rattle.desk_generator.specs.Requests.{opening_day, start_day}

pub opening_limited : IsLimited opening_day
unfolding opening_day
opening_limited = (limited_year opening_day).1 (omega (arith, signed_arith), omega (arith, signed_arith))

pub start_limited : IsLimited start_day
unfolding start_day
start_limited = (limited_year start_day).1 (omega (arith, signed_arith), omega (arith, signed_arith))

year_limited : (d : Date) → d.year ≡ pos 2026 → IsLimited d
year_limited d e = (limited_year d).1 (omega (arith, signed_arith), omega (arith, signed_arith))

pub is_opening_day : (d : Date) → IsYmd (pos 2026) (pos 1) (pos 15) d → d ≡ opening_day
unfolding opening_day
is_opening_day d h =
    let m : d.month ≡ 1 = cc in
    let n : d.day ≡ 15 = cc in
    one_date d opening_day (year_limited d h.0) opening_limited (rw (h.0, m, n) refl)

pub is_start_day : (d : Date) → IsYmd (pos 2026) (pos 3) (pos 1) d → d ≡ start_day
unfolding start_day
is_start_day d h =
    let m : d.month ≡ 3 = cc in
    let n : d.day ≡ 1 = cc in
    one_date d start_day (year_limited d h.0) start_limited (rw (h.0, m, n) refl)
