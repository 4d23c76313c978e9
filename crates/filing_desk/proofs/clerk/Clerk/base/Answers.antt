use Rattle.std.proofs.Common.{subst}
use Rattle.filing_desk.specs.Clerks.{Clerking, HasOpening}
use Rattle.filing_desk.proofs.clerk.Clerk.base.Goals as goal

pub returns-clause-opening : goal.returns-clause-opening
returns-clause-opening g c = subst (λ (k : Clerking _). HasOpening c.self.inside.base k) c.self.view_is c.self.invariant.opening
