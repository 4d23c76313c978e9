use Rattle.std.proofs.Common.{◌≡◌, ◌<◌, ◌^◌, rules, arith}
use Rattle.std.proofs.lemmas.Fmt.{parse-decimal}
use Rattle.command_words.proofs.numbers.number.Goals as goal

pub returns-then-eq-clause-one : goal.returns-then-eq-clause-one
returns-then-eq-clause-one c = λ n fits e. let read = parse-decimal 64 n _ _ fits fits e c.parse.ensures.value.0 in search rules

pub returns-else-eq-clause-one : goal.returns-else-eq-clause-one
returns-else-eq-clause-one c = λ n fits e.
    let read = parse-decimal 64 n _ _ fits fits e c.parse.ensures.value.0 in
    let text : c.format.result.now ≡ c.args.word.now = cc e in search rules

pub returns-in-Err-clause-one : goal.returns-in-Err-clause-one
returns-in-Err-clause-one c = λ n fits e. absurd (cc (parse-decimal 64 n _ _ fits fits e c.parse.ensures.value.0))
