use Rattle.airfield_findings.proofs.bounds.bounds_of.Goals as goal

pub returns-in-None : goal.returns-in-None
returns-in-None c = λ x. (λ h. absurd (c.nowhere.ensures x h), λ o. absurd (rw c.in-None.is at o))

pub returns-in-Some : goal.returns-in-Some
returns-in-Some c = λ x. rw c.in-Some.is (c.on_grid.ensures x)
