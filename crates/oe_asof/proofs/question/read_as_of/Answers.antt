use Rattle.oe_asof.specs.Lines.{Wrong}
use Rattle.oe_asof.proofs.question.read_as_of.Goals as goal

pub returns-in-Err-as_of-clause-refused : goal.returns-in-Err-as_of-clause-refused
returns-in-Err-as_of-clause-refused c = Wrong c.requires.short c.in-Ok-Some.fields (cc (c.in-Ok-Some.ensures.found, c.in-Ok-Some.field-0-is)) c.in-Err-as_of.ensures.wrong
