use Rattle.row_cases.proofs.ListFacts.{three_texts}
use Rattle.row_cases.proofs.RowTexts.{row_text, grown}
use Rattle.row_cases.proofs.append.append_filing_row.Goals as goal

pub returns-clause-ok : goal.returns-clause-ok
returns-clause-ok c =
    three_texts c.append_judged.result _ _ _ _ _ _ _ _ c.in_ok-append_submission.ensures.ok c.in_ok-append_standing.ensures.ok c.append_judged.ensures.ok
    (row_text c.args.case.now)

pub returns-clause-part : goal.returns-clause-part
returns-clause-part c =
    grown c.append_judged.result _ _ _ _ _ _ c.in_ok-append_submission.ensures.ok c.in_ok-append_standing.ensures.ok c.append_judged.ensures.part
