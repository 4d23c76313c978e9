use Rattle.row_register.proofs.PartFacts.{where_none}
use Rattle.row_cases.proofs.EntryFacts.{no_strip}
use Rattle.row_cases.proofs.entry.runway_of.Goals as goal

pub returns-clause-none : goal.returns-clause-none
returns-clause-none c = where_none c.parse.result (no_strip c.args.text.now) c.parse.ensures.none
