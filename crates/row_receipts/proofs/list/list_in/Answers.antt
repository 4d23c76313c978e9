use Rattle.std.proofs.Common.{rules, ◌≡◌, codes, ap, sym, ◌∙◌}
use Rattle.row_cases.specs.Filings.{IsFilingRow}
use Rattle.row_cases.specs.declared.filing.FilingRow.{FilingRow}
use Rattle.row_receipts.specs.Fields.{framed_text}
use Rattle.row_receipts.proofs.OutcomeChoices.{at_none, at_some}
use Rattle.row_receipts.proofs.FrameFacts.{no_frame, no_list, one_list_framed}
use Rattle.row_receipts.proofs.list.list_in.Goals as goal

pub returns-in_default-clause-none : goal.returns-in_default-clause-none
returns-in_default-clause-none c = no_frame c.args.row.now (at_none _ c.in_default.is c.in_ok-read.ensures.none)

pub returns-in_default-list-clause-none : goal.returns-in_default-list-clause-none
returns-in_default-list-clause-none c =
    no_list c.one_filing_row.ensures c.args.row.now _ (at_some (λ (v : FilingRow). IsFilingRow (codes "000001") c.args.row.now v) _ _ c.in-Some.is c.in_ok-read.ensures.some) c.in_default-list.is

pub returns-else-branch-clause-none : goal.returns-else-branch-clause-none
returns-else-branch-clause-none c = λ list h e.
    let is = at_some (λ (v : FilingRow). IsFilingRow (codes "000001") c.args.row.now v) _ _ c.in-Some.is c.in_ok-read.ensures.some in
    let same = one_list_framed c.one_filing_row.ensures c.args.row.now _ is c.in-Some-list.kept c.in-Some-list.is list h e in
    let there : c.args.row.now ≡ framed_text c.in-Some-list.kept.list = e ∙ ap framed_text (sym same) in
    search (rules, there)
