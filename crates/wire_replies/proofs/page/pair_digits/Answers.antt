use Rattle.wire_replies.proofs.PageFacts.{pairs_at}
use Rattle.wire_replies.proofs.page.pair_digits.Goals as goal

pub returns-clause-tens : goal.returns-clause-tens
returns-clause-tens c = (pairs_at c.args.number c.requires).0

pub returns-clause-ones : goal.returns-clause-ones
returns-clause-ones c = (pairs_at c.args.number c.requires).1
