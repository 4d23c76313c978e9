use Rattle.std.proofs.Common.{◌≡◌}
use Rattle.desk_machine.specs.Reports.{expiring_up_to}
use Rattle.filing_desk.proofs.reports.expiry_rows.Given as goal

-- the rows of the cases so far
abbrev pub invariant-loop-place : goal.invariant-loop-place
invariant-loop-place l = l.rows.items ≡ expiring_up_to l.desk l.place
