use Rattle.std.proofs.Common.{rules, ◌≡◌, ap, sym, subst, ◌∙◌}
use Rattle.wire_values.specs.Commas.{joined}
use Rattle.wire_requests.specs.Changes.{Asked}
use Rattle.wire_requests.specs.Limits.{IsChangeRecord}
use Rattle.wire_requests.specs.Spellings.{change_spelling}
use Rattle.row_receipts.specs.Kinds.{CanLeadTo}
use Rattle.row_receipts.specs.Receipts.{receipt_key}
use Rattle.row_receipts.proofs.ReceiptChoices.{at_none, at_some}
use Rattle.row_receipts.proofs.ChangeFacts.{one_change}
use Rattle.row_receipts.proofs.RowFacts.{number_line, lines_are, no_outcome}
use Rattle.row_receipts.proofs.receipt.read_receipt_row.Goals as goal

pub returns-in_default-clause-none : goal.returns-in_default-clause-none
returns-in_default-clause-none c = λ v is. c.in_default.ensures.none _ _ _ (number_line v.number is.numbered) is.row_is

pub returns-in_default-read_number-clause-none : goal.returns-in_default-read_number-clause-none
returns-in_default-read_number-clause-none c = λ v is.
    let lines = lines_are c.args.key.now c.args.row.now _ _ _ v c.in-Some.ensures.cut c.in-Some.ensures.lines.0 c.in-Some.ensures.lines.1 is in
    c.in_default-read_number.ensures.none v.number is.numbered lines.number_is

pub returns-in_default-2-clause-none : goal.returns-in_default-2-clause-none
returns-in_default-2-clause-none c = λ v is.
    let lines = lines_are c.args.key.now c.args.row.now _ _ _ v c.in-Some.ensures.cut c.in-Some.ensures.lines.0 c.in-Some.ensures.lines.1 is in
    at_none _ c.in_default-2.is c.in_ok-change.ensures.none v.change is.recorded lines.request_is

pub returns-then-not-branch-clause-none : goal.returns-then-not-branch-clause-none
returns-then-not-branch-clause-none c = λ v is.
    let lines = lines_are c.args.key.now c.args.row.now _ _ _ v c.in-Some.ensures.cut c.in-Some.ensures.lines.0 c.in-Some.ensures.lines.1 is in
    let told = at_some (λ (d : Asked). c.in-Some.lines.request.now ≡ joined (change_spelling d)) _ _ c.in-Some-2.is c.in_ok-change.ensures.told in
    let good = at_some IsChangeRecord _ _ c.in-Some-2.is c.in_ok-change.ensures.good in
    let same = one_change _ v.change good is.recorded (sym told ∙ lines.request_is) in
    let key = is.key_is ∙ ap (λ (d : Asked). receipt_key d.caller d.key) (sym same) in
    search (rules, key)

pub returns-in_default-3-clause-none : goal.returns-in_default-3-clause-none
returns-in_default-3-clause-none c = λ v is.
    let lines = lines_are c.args.key.now c.args.row.now _ _ _ v c.in-Some.ensures.cut c.in-Some.ensures.lines.0 c.in-Some.ensures.lines.1 is in
    let told = at_some (λ (d : Asked). c.in-Some.lines.request.now ≡ joined (change_spelling d)) _ _ c.in-Some-2.is c.in_ok-change.ensures.told in
    let good = at_some IsChangeRecord _ _ c.in-Some-2.is c.in_ok-change.ensures.good in
    let same = one_change _ v.change good is.recorded (sym told ∙ lines.request_is) in
    let led = subst (λ (d : Asked). CanLeadTo d.act v.outcome) (sym same) is.led in
    let seen = subst (λ (d : Asked). CanLeadTo d.act v.outcome) (sym c.change.view_is) led in
    no_outcome c.change.inside.act c.in-Some.lines.outcome.now _ c.in_default-3.is c.in_ok-outcome.ensures v.outcome seen lines.outcome_is
