use Rattle.std.proofs.Common.{◌≡◌, ◌∙◌, rules}
use Rattle.std.specs.Fmt.{decimal}
use Rattle.std.proofs.lemmas.Fmt.{parse-decimal}
use Rattle.row_cases.proofs.NumberFacts.{decimal_utf8}
use Rattle.row_cases.proofs.number.number.Goals as goal

pub returns-in_default-clause-one : goal.returns-in_default-clause-one
returns-in_default-clause-one c = λ n fits e. absurd (c.in_default.ensures.cases.0 (decimal_utf8 n c.args.text.now fits e))

pub returns-then-eq-clause-one : goal.returns-then-eq-clause-one
returns-then-eq-clause-one c = λ n fits e.
    let word : c.in-Ok.word.now ≡ decimal n = c.in-Ok.ensures.cases.0 ∙ e in
    let read = parse-decimal 64 n _ _ fits fits word c.parse.ensures.value.0 in search rules

pub returns-else-eq-clause-one : goal.returns-else-eq-clause-one
returns-else-eq-clause-one c = λ n fits e.
    let word : c.in-Ok.word.now ≡ decimal n = c.in-Ok.ensures.cases.0 ∙ e in
    let read = parse-decimal 64 n _ _ fits fits word c.parse.ensures.value.0 in
    let text : c.format.result.now ≡ c.in-Ok.word.now = cc word in search rules

pub returns-in-Err-clause-one : goal.returns-in-Err-clause-one
returns-in-Err-clause-one c = λ n fits e.
    let word : c.in-Ok.word.now ≡ decimal n = c.in-Ok.ensures.cases.0 ∙ e in
    absurd (cc (parse-decimal 64 n _ _ fits fits word c.parse.ensures.value.0))
