use Rattle.std.proofs.Common.{arith, sym, ◌∙◌}
use Rattle.wire_requests.specs.Requests.{Wrong}
use Rattle.wire_requests.proofs.read.RecordReader.record.Goals as goal

pub returns-in-Err-request-clause-malformed : goal.returns-in-Err-request-clause-malformed
returns-in-Err-request-clause-malformed c = rw c.malformed.ensures (Wrong (omega arith) _ (sym c.in-Ok-Some.ensures.found ∙ c.in-Ok-Some.field-0-is) c.in-Err-request.ensures.bad)
