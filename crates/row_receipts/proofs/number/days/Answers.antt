use Rattle.std.proofs.Common.{arith, rules, ◌≡◌, sym, ◌∙◌}
use Rattle.std.proofs.lemmas.Fmt.{decimal_injective}
use Rattle.row_receipts.proofs.number.days.Goals as goal

pub returns-then-number-from-clause-none : goal.returns-then-number-from-clause-none
returns-then-number-from-clause-none c = λ n p q e.
    let same : c.in_ok-number.number ≡ n = decimal_injective _ n (omega arith) (omega arith) (sym c.in_ok-number.ensures.some ∙ e) in
    search (rules, same)

pub returns-then-number-from-2-clause-none : goal.returns-then-number-from-2-clause-none
returns-then-number-from-2-clause-none c = λ n p q e.
    let same : c.in_ok-number.number ≡ n = decimal_injective _ n (omega arith) (omega arith) (sym c.in_ok-number.ensures.some ∙ e) in
    search (rules, same)
