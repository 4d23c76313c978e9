-- The rows of the case reports.
use Rattle.std.specs.Prelude.{ℕ, zero, suc, List, [], ◌++◌, length, Option, Some, None, cond}
use Rattle.std.specs.Option.{option_map, option_to_list}
use Rattle.std.specs.List.{flat_map}
use Rattle.std.specs.List.Sorted.{IsPermutation, IsSorted}
use Rattle.std.specs.Ordering.{int_cmp, nat_cmp, ordering_then}
use Rattle.std.specs.declared.cmp.Ordering.{Ordering}
use Rattle.jiff_core.specs.Date.{epoch_day}
use Rattle.determination_dates.specs.declared.determination.Record.{Record}
use Rattle.determination_dates.specs.Computed.{with_some, expiry_date}
use Rattle.oe_reports.specs.declared.rows.ReviewRow.{ReviewRow}
use Rattle.oe_reports.specs.declared.rows.ExpiryRow.{ExpiryRow}
use Rattle.desk_machine.specs.States.{State, case_at}
use Rattle.desk_machine.specs.Marks.{stands_in, marks}

-- the determination of the case of this number
abbrev pub determination_in : State → ℕ → Option Record
determination_in s number = with_some (case_at s.cases number) (λ c. c.life.determination)

-- ---- the marked cases

-- the decision of a case, and its day of issuance
abbrev pub review_row : State → ℕ → Option ReviewRow
review_row s number = option_map (λ r. record { case = number; decision = r.decision; issued = r.issued }) (determination_in s number)

abbrev pub review_rows_of : State → List ℕ → List ReviewRow
review_rows_of s numbers = flat_map (λ number. option_to_list (review_row s number)) numbers

-- the marked cases, in rising order of number
abbrev pub review_rows : State → List ReviewRow
review_rows s = review_rows_of s (marks s)

-- ---- the determinations that have an expiry

-- the row of a case whose determination stands on the desk's day and has an expiry (77.33)
abbrev pub expiry_row : State → ℕ → Option ExpiryRow
expiry_row s number = cond (stands_in s number) (option_map (λ day. record { expiry = day; case = number }) (with_some (determination_in s number) expiry_date)) None

-- the rows of the cases from 1 to a number, in rising order of number
abbrev pub expiring_up_to : State → ℕ → List ExpiryRow
expiring_up_to s zero = []
expiring_up_to s (suc n) = expiring_up_to s n ++ option_to_list (expiry_row s (suc n))

-- the rows of all cases
abbrev pub expiry_rows : State → List ExpiryRow
expiry_rows s = expiring_up_to s (length s.cases)

-- order by expiry, then by case
abbrev pub by_expiry : ExpiryRow → ExpiryRow → Ordering
by_expiry a b = ordering_then (int_cmp (epoch_day a.expiry) (epoch_day b.expiry)) (nat_cmp a.case b.case)

-- the same rows, in the order of a report by expiry
pub record IsExpiryOrder (unordered rows : List ExpiryRow) : Type 0 where
  pub same : IsPermutation unordered rows
  pub rises : IsSorted by_expiry rows
