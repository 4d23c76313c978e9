use Rattle.std.proofs.Common.{length, string_bytes, sym}
use Rattle.wire_values.specs.declared.report.ReportKind.TheVariants as reports
use Rattle.oe_reports.specs.Tables.{head_line, airfield_line}
use Rattle.oe_reports.proofs.Lines.{line_of_read}
use Rattle.oe_reports.proofs.register_table.airfield_table.Goals as goal

pub loop-i-preserved : goal.loop-i-preserved
loop-i-preserved c =
    line_of_read airfield_line (head_line reports.Airfields (length c.args.register.now)) (string_bytes c.loop-i.text) (string_bytes c.append_airfield.new.text)
    c.args.register.now c.loop-i.i c.in-Some.airfield.now (sym c.in-Some.ensures.place) c.loop-i.invariant c.in_ok-append_airfield.ensures
