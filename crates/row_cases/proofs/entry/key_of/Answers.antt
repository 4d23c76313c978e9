use Rattle.row_cases.proofs.entry.key_of.Goals as goal

pub returns-in-Nowhere-clause-none : goal.returns-in-Nowhere-clause-none
returns-in-Nowhere-clause-none c = rw c.in-Nowhere.is c.nowhere.ensures.none
