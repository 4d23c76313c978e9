use Rattle.site_questions.proofs.kinds.questions.Goals as goal

pub returns-in-Ceilings-clause-told : goal.returns-in-Ceilings-clause-told
returns-in-Ceilings-clause-told g c = rw c.in-Ceilings.is (record { closed = c.ceilings.ensures.closed; begun = c.ceilings.ensures.begun; written = c.ceilings.ensures.written })

pub returns-in-Ways-clause-told : goal.returns-in-Ways-clause-told
returns-in-Ways-clause-told g c = rw c.in-Ways.is (record { closed = c.ways.ensures.closed; begun = c.ways.ensures.begun; written = c.ways.ensures.written })
