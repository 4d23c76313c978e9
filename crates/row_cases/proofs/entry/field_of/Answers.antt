use Rattle.row_register.proofs.PartFacts.{where_none}
use Rattle.row_cases.proofs.EntryFacts.{no_field}
use Rattle.row_cases.proofs.entry.field_of.Goals as goal

pub returns-clause-none : goal.returns-clause-none
returns-clause-none c = where_none c.parse.result (no_field c.args.text.now) c.parse.ensures.none
