-- The last day for a petition: 77.39(a) and (c).
use Rattle.std.specs.Prelude.{List, ℤ, ◌+ℤ◌, ◌≤ℤ◌}
use Rattle.jiff_core.specs.declared.civil.date.Date.{Date}
use Rattle.determination_dates.specs.declared.deadline.TheConstants.{PETITION_DAYS}
use Rattle.determination_dates.specs.Closed.{IsOpen}

-- the least open day that is at least 30 days after issuance
pub record IsDeadline (closed : List Date) (issued z : ℤ) : Type 0 where
  pub later : (issued +ℤ PETITION_DAYS) ≤ℤ z
  pub is_open : IsOpen closed z
  pub least : (y : ℤ) → (issued +ℤ PETITION_DAYS) ≤ℤ y → IsOpen closed y → z ≤ℤ y
