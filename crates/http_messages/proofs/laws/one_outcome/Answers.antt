use Rattle.http_messages.proofs.OutcomeFacts.{refused_once, good_not_large, good_not_malformed}
use Rattle.http_messages.proofs.laws.one_outcome.Goals as goal

pub returns-clause-refused : goal.returns-clause-refused
returns-clause-refused c = refused_once

pub returns-clause-good : goal.returns-clause-good
returns-clause-good c = good_not_large

pub returns-clause-well : goal.returns-clause-well
returns-clause-well c = good_not_malformed
