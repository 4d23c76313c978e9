use Rattle.std.proofs.Common.{◌≡◌, List, sym, ◌∙◌}
use Rattle.finding_lists.specs.declared.finding.Finding.{Finding}
use Rattle.wire_values.specs.Commas.{with_commas}
use Rattle.wire_replies.specs.Entries.{list_text}
use Rattle.row_cases.specs.Entries.{IsList}
use Rattle.row_receipts.proofs.OutcomeChoices.{at_none, at_some}
use Rattle.row_receipts.proofs.DeterminedFacts.{no_issued, no_list_behind}
use Rattle.row_receipts.proofs.determination.take_judged.Goals as goal

pub returns-in_default-clause-none : goal.returns-in_default-clause-none
returns-in_default-clause-none c = λ short text is.
    no_issued c.args.form.now short text c.args.case
    (λ decision last issued deadline effective expiry rest s h p q r e. c.in_default.ensures.none decision last issued deadline effective expiry rest s h p q r (sym is ∙ e))

pub returns-in_default-2-clause-none : goal.returns-in_default-2-clause-none
returns-in_default-2-clause-none c = λ short text is.
    let issue = c.in-Some.told.issue in
    let course = c.in-Some.told.course in
    no_list_behind c.args.form.now short text c.args.case issue.decision issue.last issue.issued course.deadline course.effective course.expiry _ (is ∙ c.in-Some.ensures.took)
    (at_none _ c.in_default-2.is c.in_ok-list.ensures.none)

pub returns-clause-took : goal.returns-clause-took
returns-clause-took c =
    (_, c.in-Some.ensures.took, at_some (λ (l : List Finding). with_commas c.take_issued.new.parts ≡ list_text l) _ _ c.in-Some-2.is c.in_ok-list.ensures.told)

pub returns-clause-whole : goal.returns-clause-whole
returns-clause-whole c = at_some IsList _ _ c.in-Some-2.is c.in_ok-list.ensures.whole
