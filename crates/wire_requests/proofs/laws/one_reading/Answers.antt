use Rattle.wire_requests.proofs.OneReading.{has_reading, same, once, apart}
use Rattle.wire_requests.proofs.laws.one_reading.Goals as goal

pub returns : goal.returns
returns c = record { some = has_reading; same = same; once = once; apart = apart }
