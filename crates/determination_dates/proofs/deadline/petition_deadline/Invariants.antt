use Rattle.std.proofs.Common.{ℤ, pos, ◌+ℤ◌, ◌≤ℤ◌}
use Rattle.jiff_core.specs.Date.{epoch_day}
use Rattle.determination_dates.proofs.Walk.{days_left}
use Rattle.determination_dates.specs.Closed.{IsOpen}
use Rattle.determination_dates.proofs.deadline.petition_deadline.Given as goal

abbrev pub invariant-loop-day : goal.invariant-loop-day
invariant-loop-day l = record {
  later : (epoch_day l.fn.issued +ℤ pos 30) ≤ℤ epoch_day l.day;
  bound : epoch_day l.day ≤ℤ pos 380_000;
  none : (y : ℤ) → (epoch_day l.fn.issued +ℤ pos 30) ≤ℤ y → IsOpen l.closed y → epoch_day l.day ≤ℤ y;
}

abbrev pub decreases-loop-day : goal.decreases-loop-day
decreases-loop-day l = days_left (epoch_day l.day)
