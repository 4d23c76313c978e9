use Rattle.oe_http.proofs.LineFacts.{gives_long, gives_fed}
use Rattle.oe_http.proofs.lines.finish.Goals as goal

pub returns-then-raw-clause-line : goal.returns-then-raw-clause-line
returns-then-raw-clause-line c = λ x y t. gives_long x y _ _ _ (rw c.if-raw.true at t)

pub returns-then-raw-2-clause-line : goal.returns-then-raw-2-clause-line
returns-then-raw-2-clause-line c = λ x y t. gives_fed x y _ _ _ (rw (c.if-raw.false, c.if-raw-2.true) at t) c.strip_return.ensures (rw c.deref.ensures.value at c.sized.ensures)
