use Rattle.row_cases.proofs.filing.take_case.Goals as goal

pub returns-in_default-clause-none : goal.returns-in_default-clause-none
returns-in_default-clause-none c = λ v h e. c.in_default.ensures.none v.submission v.received v.form v.life.end _ h.submission h.received h.form e
