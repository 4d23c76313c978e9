use Rattle.std.proofs.Common.{arith, rules, ◌++◌, Some, None, string_bytes, codes, ap, ◌∙◌}
use Rattle.std.proofs.lemmas.Result.{on_ok_weaker}
use Rattle.row_cases.specs.Older.{renewed_row}
use Rattle.row_cases.proofs.Renewing.{cut_at, step_on, step_end, step_last}
use Rattle.row_cases.proofs.older.append_renewed_row.Goals as goal

pub returns-in_default : goal.returns-in_default
returns-in_default c =
    let whole = string_bytes c.args.text.now ++ renewed_row c.args.row.now in
    let rest = c.loop-place.rest.now in
    let left = step_end c.loop-place.place (string_bytes c.loop-place.text) rest whole (omega arith) (cut_at rest None c.in_default.ensures.cases) c.loop-place.invariant.1 in
    on_ok_weaker c.append_text.result (λ e. e ∙ left) c.append_text.ensures.ok

pub loop-place-preserved : goal.loop-place-preserved
loop-place-preserved c =
    let whole = string_bytes c.args.text.now ++ renewed_row c.args.row.now in
    let rest = c.loop-place.rest.now in
    let cut = cut_at rest (Some (c.in-Some.field, c.in-Some.behind)) c.in-Some.ensures.cases in
    let left = step_on c.loop-place.place (string_bytes c.loop-place.text) c.in-Some.field.now c.in-Some.behind.now rest whole (omega arith) cut c.loop-place.invariant.1 in
    let grown = c.in_ok-append_text-2.ensures.ok ∙ ap (λ t. t ++ codes ",") c.in_ok-append_text.ensures.ok in
    (search rules, rw grown left)

pub returns : goal.returns
returns c =
    let whole = string_bytes c.args.text.now ++ renewed_row c.args.row.now in
    let rest = c.loop-place.rest.now in
    let left = step_last c.loop-place.place (string_bytes c.loop-place.text) rest whole (omega arith) c.loop-place.invariant.1 in
    on_ok_weaker c.append_text-3.result (λ e. e ∙ ap (λ t. t ++ rest) c.in_ok-append_text-3.ensures.ok ∙ left) c.append_text-3.ensures.ok
