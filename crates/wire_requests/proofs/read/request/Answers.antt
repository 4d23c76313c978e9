use Rattle.std.proofs.Common.{refl}
use Rattle.wire_requests.specs.Forms.{NoForm}
use Rattle.wire_requests.specs.declared.form.Form.TheVariants as forms
use Rattle.wire_requests.proofs.FormFacts.{wrong_form}
use Rattle.wire_requests.proofs.read.request.Goals as goal

pub returns-in-Some-Act-clause-bad : goal.returns-in-Some-Act-clause-bad
returns-in-Some-Act-clause-bad c =
    wrong_form (forms.Act c.in-Some-Act.form) _ _ _ c.change.result c.new-cursor.ensures (rw c.in-Some-Act.field-0-is at c.in-Some-Act.ensures.took) c.change.ensures.bad

pub returns-in-Some-Screen-clause-bad : goal.returns-in-Some-Screen-clause-bad
returns-in-Some-Screen-clause-bad c = wrong_form forms.Screen _ _ _ c.screen.result c.new-cursor.ensures (rw c.in-Some-Screen.field-0-is at c.in-Some-Screen.ensures.took) c.screen.ensures.bad

pub returns-in-Some-Verdict-clause-bad : goal.returns-in-Some-Verdict-clause-bad
returns-in-Some-Verdict-clause-bad c = wrong_form forms.Verdict _ _ _ c.verdict.result c.new-cursor.ensures (rw c.in-Some-Verdict.field-0-is at c.in-Some-Verdict.ensures.took) c.verdict.ensures.bad

pub returns-in-Some-Case-clause-bad : goal.returns-in-Some-Case-clause-bad
returns-in-Some-Case-clause-bad c = wrong_form forms.Case _ _ _ c.case.result c.new-cursor.ensures (rw c.in-Some-Case.field-0-is at c.in-Some-Case.ensures.took) c.case.ensures.bad

pub returns-in-Some-Airfield-clause-bad : goal.returns-in-Some-Airfield-clause-bad
returns-in-Some-Airfield-clause-bad c = wrong_form forms.Airfield _ _ _ c.airfield.result c.new-cursor.ensures (rw c.in-Some-Airfield.field-0-is at c.in-Some-Airfield.ensures.took) c.airfield.ensures.bad

pub returns-in-Some-Review-clause-bad : goal.returns-in-Some-Review-clause-bad
returns-in-Some-Review-clause-bad c = wrong_form forms.Review _ _ _ c.review.result c.new-cursor.ensures (rw c.in-Some-Review.field-0-is at c.in-Some-Review.ensures.took) c.review.ensures.bad

pub returns-in-Some-Report-clause-bad : goal.returns-in-Some-Report-clause-bad
returns-in-Some-Report-clause-bad c = wrong_form forms.Report _ _ _ c.report.result c.new-cursor.ensures (rw c.in-Some-Report.field-0-is at c.in-Some-Report.ensures.took) c.report.ensures.bad

pub returns-in-Some-Sync-clause-bad : goal.returns-in-Some-Sync-clause-bad
returns-in-Some-Sync-clause-bad c = wrong_form forms.Sync _ _ _ c.sync.result c.new-cursor.ensures (rw c.in-Some-Sync.field-0-is at c.in-Some-Sync.ensures.took) c.sync.ensures.bad

pub returns-in-None-clause-bad : goal.returns-in-None-clause-bad
returns-in-None-clause-bad c = NoForm (rw c.new-cursor.ensures at c.in-None.ensures.none) refl
