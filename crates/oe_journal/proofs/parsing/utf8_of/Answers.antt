use Rattle.oe_journal.proofs.Takes.{utf8_some, utf8_none}
use Rattle.oe_journal.proofs.parsing.utf8_of.Goals as goal

pub returns-in-Ok : goal.returns-in-Ok
returns-in-Ok c = utf8_some c.args.bytes.now c.in-Ok.text.now c.in-Ok.ensures.cases.0 c.in-Ok.ensures.cases.1

pub returns-in-Err : goal.returns-in-Err
returns-in-Err c = utf8_none c.args.bytes.now c.in-Err.ensures.cases.0
