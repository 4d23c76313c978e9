use Rattle.std.proofs.Common.{◌≡◌, take}
use Rattle.desk_machine.specs.Reports.{review_rows_of}
use Rattle.filing_desk.proofs.reports.review_rows.Given as goal

-- the rows of the numbers so far
abbrev pub invariant-loop-number : goal.invariant-loop-number
invariant-loop-number l = l.rows.items ≡ review_rows_of l.desk (take l.number-index l.marked)
