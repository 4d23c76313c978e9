use Rattle.std.proofs.Common.{length, string_bytes}
use Rattle.wire_values.specs.declared.report.ReportKind.TheVariants as reports
use Rattle.oe_reports.specs.Tables.{head_line, expiry_line}
use Rattle.oe_reports.proofs.Lines.{line_more}
use Rattle.oe_reports.proofs.case_tables.expiry_table.Goals as goal

pub loop-row-preserved : goal.loop-row-preserved
loop-row-preserved c =
    line_more expiry_line (head_line reports.Expiry (length c.args.rows.now)) (string_bytes c.loop-row.text) (string_bytes c.append_expiry.new.text)
    c.args.rows.now c.loop-row.row-index c.row-item.result c.loop-row-test.true c.row-item.is c.loop-row.invariant c.in_ok-append_expiry.ensures
