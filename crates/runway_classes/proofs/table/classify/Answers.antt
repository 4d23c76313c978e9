use Rattle.runway_classes.proofs.Classes.{flared, class_sized}
use Rattle.runway_classes.proofs.table.classify.Goals as goal

pub returns-clause-flared : goal.returns-clause-flared
returns-clause-flared c = rw c.runway_class.ensures (flared c.args.utility c.args.a c.args.b)

pub returns-clause-sized : goal.returns-clause-sized
returns-clause-sized c = rw c.runway_class.ensures (class_sized c.args.utility c.args.a c.args.b)
