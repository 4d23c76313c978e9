use Rattle.std.proofs.Common.{◌≡◌, ◌++◌, take, length, string_bytes}
use Rattle.std.specs.List.{flat_map}
use Rattle.wire_values.specs.declared.report.ReportKind.TheVariants as reports
use Rattle.oe_reports.specs.Tables.{head_line, expiry_line}
use Rattle.oe_reports.proofs.case_tables.expiry_table.Given as goal

-- the first line, and those of the rows so far
abbrev pub invariant-loop-row : goal.invariant-loop-row
invariant-loop-row l = string_bytes l.text ≡ head_line reports.Expiry (length l.rows) ++ flat_map expiry_line (take l.row-index l.rows)
