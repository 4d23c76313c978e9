use Rattle.std.proofs.Common.{rules, ap, sym, ◌∙◌}
use Rattle.wire_values.specs.Commas.{joined}
use Rattle.wire_requests.specs.Changes.{Asked}
use Rattle.wire_requests.specs.Requests.{IsRecord}
use Rattle.wire_requests.specs.Spellings.{change_spelling}
use Rattle.wire_requests.specs.declared.request.Request.TheVariants as requests
use Rattle.wire_requests.proofs.LineFacts.{canonical_change}
use Rattle.row_receipts.proofs.ReceiptChoices.{at_none, at_some}
use Rattle.row_receipts.proofs.ChangeFacts.{one_recorded}
use Rattle.row_receipts.proofs.change.read_change.Goals as goal

pub returns-in_default-clause-none : goal.returns-in_default-clause-none
returns-in_default-clause-none c = λ d h e. at_none _ c.in_default.is c.in_ok-change.ensures.none d (canonical_change d c.args.line.now h e)

pub returns-else-branch-clause-none : goal.returns-else-branch-clause-none
returns-else-branch-clause-none c = λ d h e.
    let is = at_some (λ (v : Asked). IsRecord c.args.line.now (requests.Change v)) _ _ c.in-Some.is c.in_ok-change.ensures.some in
    let same = one_recorded c.args.line.now _ d is h e in
    let told = e ∙ ap (λ v. joined (change_spelling v)) (sym same) in
    search (rules, told)
