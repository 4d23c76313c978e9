use Rattle.std.proofs.Common.{◌++◌, ap, sym, ◌∙◌}
use Rattle.wire_values.specs.Commas.{with_commas}
use Rattle.wire_replies.specs.Entries.{list_text}
use Rattle.row_cases.proofs.ListFacts.{three_texts}
use Rattle.row_cases.proofs.RowTexts.{issue_fields, course_fields, determination_text}
use Rattle.row_cases.proofs.append.append_determination.Goals as goal

pub returns-clause-ok : goal.returns-clause-ok
returns-clause-ok c =
    let r = c.args.determination.now in
    let kept = c.args.kept.now in
    three_texts c.append_list.result _ _ _ _ _ _ _ _ c.in_ok-append_issue.ensures.ok c.in_ok-append_course.ensures.ok c.append_list.ensures.ok
    (determination_text r kept ∙ ap (λ l. (with_commas (issue_fields r kept.last) ++ with_commas (course_fields r)) ++ list_text l) (sym c.as_slice.ensures))
