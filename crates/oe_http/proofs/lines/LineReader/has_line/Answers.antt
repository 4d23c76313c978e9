use Rattle.std.proofs.Common.{arith, ap, ◌<◌, ◌≤◌}
use Rattle.oe_http.proofs.FeedFacts.{pending_feed, pending_none}
use Rattle.oe_http.proofs.lines.LineReader.has_line.Goals as goal

pub returns-clause-yes : goal.returns-clause-yes
returns-clause-yes c = λ e.
    let lt : c.self.inside.start < c.self.inside.feeds = grind (arith, e) in
    pending_feed _ _ _ _ _ (ap (λ p. p.bytes) c.self.view_is) c.self.invariant.3 (omega (arith, c.self.told, c.self.invariant.1)) lt

pub returns-clause-no : goal.returns-clause-no
returns-clause-no c = λ e.
    let le : c.self.inside.feeds ≤ c.self.inside.start = grind (arith, e) in
    pending_none _ _ _ _ _ (ap (λ p. p.bytes) c.self.view_is) c.self.invariant.3 (omega (arith, c.self.told, c.self.invariant.1)) le
