use Rattle.airfield_findings.proofs.EntryFacts.{where_ok}
use Rattle.oe_asof.proofs.ListFacts.{asked, not_asked}
use Rattle.oe_asof.proofs.listing.append_told.Goals as goal

pub returns-in-Ok-clause-ok : goal.returns-in-Ok-clause-ok
returns-in-Ok-clause-ok c = where_ok c.append_list_of.result (asked c.args.history.now.versions c.args.line.now _ _ _ _ c.in-Ok.ensures.read) c.append_list_of.ensures.ok

pub returns-in-Err-clause-ok : goal.returns-in-Err-clause-ok
returns-in-Err-clause-ok c = where_ok c.append_refused.result (not_asked c.args.history.now.versions c.args.line.now c.in-Err.refusal _ _ c.in-Err.ensures.refused) c.append_refused.ensures.ok
