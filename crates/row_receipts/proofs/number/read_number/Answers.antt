use Rattle.std.proofs.Common.{◌≡◌, ◌∙◌, rules}
use Rattle.std.specs.Fmt.{decimal}
use Rattle.std.proofs.lemmas.Fmt.{parse-decimal}
use Rattle.row_receipts.proofs.NumberFacts.{decimal_utf8}
use Rattle.row_receipts.proofs.number.read_number.Goals as goal

pub returns-in_default-clause-none : goal.returns-in_default-clause-none
returns-in_default-clause-none c = λ n fits e. absurd (c.in_default.ensures.cases.0 (decimal_utf8 n c.args.text.now fits e))

pub returns-else-eq-clause-none : goal.returns-else-eq-clause-none
returns-else-eq-clause-none c = λ n fits e.
    let word : c.in-Ok.word.now ≡ decimal n = c.in-Ok.ensures.cases.0 ∙ e in
    let read = parse-decimal 64 n _ _ fits fits word c.parse.ensures.value.0 in
    let text : c.format.result.now ≡ c.in-Ok.word.now = cc word in search rules

pub returns-in-Err-clause-none : goal.returns-in-Err-clause-none
returns-in-Err-clause-none c = λ n fits e.
    let word : c.in-Ok.word.now ≡ decimal n = c.in-Ok.ensures.cases.0 ∙ e in
    absurd (cc (parse-decimal 64 n _ _ fits fits word c.parse.ensures.value.0))
