use Rattle.wire_requests.specs.declared.request.Request.TheVariants as requests
use Rattle.wire_requests.proofs.OneReading.{apart}
use Rattle.row_receipts.proofs.change.recorded.Goals as goal

pub returns-in-Err-Malformed-clause-none : goal.returns-in-Err-Malformed-clause-none
returns-in-Err-Malformed-clause-none c = λ v is. apart c.args.line.now (requests.Change v) _ is (rw c.in-Err-Malformed.field-0-is at c.in-Err-Malformed.ensures.malformed)
