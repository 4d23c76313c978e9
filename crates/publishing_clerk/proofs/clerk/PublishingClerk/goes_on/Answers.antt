use Rattle.std.proofs.Common.{subst}
use mathlib.Core.List.{IsPrefix}
use Rattle.publishing_clerk.specs.Publishing.{Publishing}
use Rattle.publishing_clerk.proofs.Offering.{published_begins}
use Rattle.publishing_clerk.proofs.clerk.PublishingClerk.goes_on.Goals as goal

pub returns-clause-published : goal.returns-clause-published
returns-clause-published g c =
    let at = c.self.inside in
    subst (λ (o : Publishing _). IsPrefix o.published o.clerk.accepted) c.self.view_is (published_begins g.J.Opening.opening.register at.clerk.accepted at.publisher c.self.invariant.offers)
