use Rattle.http_messages.proofs.CrowdFacts.{none_crowded, return_not_crowded, feed_not_crowded, unclosed_not_crowded, closed_crowded}
use Rattle.http_messages.proofs.decision.is_crowded.Goals as goal

pub returns-then-bytes-at-eq13-clause-no : goal.returns-then-bytes-at-eq13-clause-no
returns-then-bytes-at-eq13-clause-no c = λ _ q r e. return_not_crowded _ q r _ c.in-Some.ensures.found c.if-bytes-at-eq13.true e

pub returns-then-bytes-at-eq10-clause-no : goal.returns-then-bytes-at-eq10-clause-no
returns-then-bytes-at-eq10-clause-no c = λ _ q r e. feed_not_crowded _ q r _ c.in-Some.ensures.found c.if-bytes-at-eq10.true e

pub returns-else-bytes-at-eq10-clause-yes : goal.returns-else-bytes-at-eq10-clause-yes
returns-else-bytes-at-eq10-clause-yes c = λ e. let x = c.closes_at.ensures.yes e in closed_crowded _ _ c.in-Some.ensures.within c.in-Some.ensures.feed c.if-bytes-at-eq13.false c.if-bytes-at-eq10.false x.0 x.1 x.2

pub returns-else-bytes-at-eq10-clause-no : goal.returns-else-bytes-at-eq10-clause-no
returns-else-bytes-at-eq10-clause-no c = λ f q r e. unclosed_not_crowded _ q r _ c.in-Some.ensures.found (c.closes_at.ensures.no f) e

pub returns-in-None-clause-no : goal.returns-in-None-clause-no
returns-in-None-clause-no c = λ _ q r e. none_crowded _ q r c.in-None.ensures.found e
