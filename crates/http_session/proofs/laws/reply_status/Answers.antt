use Rattle.std.proofs.Common.{refl}
use Rattle.http_session.proofs.StatusFacts.{reply_has}
use Rattle.http_session.proofs.laws.reply_status.Goals as goal

pub returns-clause-each : goal.returns-clause-each
returns-clause-each w = reply_has

pub returns-clause-report : goal.returns-clause-report
returns-clause-report w = λ rest. refl
