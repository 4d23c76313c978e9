use Rattle.std.proofs.lemmas.Grind.{not_there}
use Rattle.http_messages.proofs.SeekFacts.{lost, only}
use Rattle.http_messages.proofs.routes.Routes.locate.Goals as goal

pub returns-else-leads_to-clause-none : goal.returns-else-leads_to-clause-none
returns-else-leads_to-clause-none c = λ _ place name is. not_there c.args.self.now.found (λ f. c.leads_to.ensures.no c.if-leads_to.false name (rw
    (only _ _ _ f c.type_inv.target (rw c.in-Ok.ensures.cases.0 at c.in-Ok-at.ensures.found) place name is) at is))

pub returns-in-Err-at-clause-none : goal.returns-in-Err-at-clause-none
returns-in-Err-at-clause-none c = λ _ place name is. not_there c.args.self.now.found (λ f. lost _ _ f c.type_inv.target
    (rw c.in-Ok.ensures.cases.0 at c.in-Err-at.ensures.missing) place name is)
