use Rattle.std.proofs.Common.{ap}
use Rattle.oe_http.proofs.LineFacts.{skipped}
use Rattle.oe_http.proofs.lines.LineReader.skip.Goals as goal

pub returns-clause-bytes : goal.returns-clause-bytes
returns-clause-bytes c = skipped _ _ _ _ _ (ap (λ p. p.bytes) c.self.view_is) c.self.invariant.0 c.requires
