use Rattle.airfields.proofs.runways.Runways.as_slice.Goals as goal

pub returns-clause-order : goal.returns-clause-order
returns-clause-order c = rw (← c.self.view_is) c.as_slice.ensures.order
