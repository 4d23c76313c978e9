use Rattle.row_cases.proofs.judged.take_determination.Goals as goal

pub returns-in_default-clause-none : goal.returns-in_default-clause-none
returns-in_default-clause-none c = λ r kept h k e. c.in_default.ensures.none r kept.last _ h k.last e
