use Rattle.std.proofs.Common.{◌≡◌, ◌++◌, take, length, string_bytes}
use Rattle.std.specs.List.{flat_map}
use Rattle.wire_values.specs.declared.report.ReportKind.TheVariants as reports
use Rattle.oe_reports.specs.Tables.{head_line, airfield_line}
use Rattle.oe_reports.proofs.register_table.airfield_table.Given as goal

-- the first line, and those of the airfields so far
abbrev pub invariant-loop-i : goal.invariant-loop-i
invariant-loop-i l = string_bytes l.text ≡ head_line reports.Airfields (length l.register) ++ flat_map airfield_line (take l.i l.register)
