use Rattle.std.proofs.Common.{◌≡◌, ◌+◌, ◌++◌, suc, sym, ap, ◌∙◌, arith, List}
use Rattle.std.specs.Option.{option_to_list}
use Rattle.oe_reports.specs.declared.rows.ExpiryRow.{ExpiryRow}
use Rattle.desk_machine.specs.Reports.{expiring_up_to, expiry_row}
use Rattle.filing_desk.proofs.reports.expiry_rows.Goals as goal

pub loop-place-preserved : goal.loop-place-preserved
loop-place-preserved c =
    let one : suc c.loop-place.place ≡ c.loop-place.place + 1 = omega arith in
    c.in_ok-put_row.ensures ∙ ap (λ o. c.loop-place.rows.items ++ option_to_list o) (c.expiry_row.ensures ∙ ap (expiry_row c.args.desk.now) (sym one))
    ∙ ap (λ (rows : List ExpiryRow). rows ++ option_to_list (expiry_row c.args.desk.now (suc c.loop-place.place))) c.loop-place.invariant ∙ ap (expiring_up_to c.args.desk.now) one
