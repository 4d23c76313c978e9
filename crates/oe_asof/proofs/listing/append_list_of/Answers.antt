use Rattle.std.proofs.Common.{◌∙◌, List, Some, ap, sym}
use Rattle.airfield_findings.proofs.EntryFacts.{where_ok}
use Rattle.finding_lists.specs.declared.finding.Finding.{Finding}
use Rattle.oe_asof.specs.Histories.{IsListed}
use Rattle.oe_asof.proofs.ListFacts.{listed}
use Rattle.oe_asof.proofs.listing.append_list_of.Goals as goal

pub returns-in-Found-clause-ok : goal.returns-in-Found-clause-ok
returns-in-Found-clause-ok c =
    where_ok c.append_as_of.result
    (listed c.args.history.now.versions c.args.question.now.number c.args.question.now.filing c.as_slice.result.now _ _ (c.in-Found.ensures ∙ ap (λ (l : List Finding). Some l) (sym c.as_slice.ensures)))
    c.append_as_of.ensures.ok

pub returns-in-NotKept-clause-ok : goal.returns-in-NotKept-clause-ok
returns-in-NotKept-clause-ok c =
    where_ok c.append_not_kept.result (λ t. IsListed.NotKept c.in-NotKept.first c.in-NotKept.last c.in-NotKept.ensures.0 c.in-NotKept.ensures.1 t) c.append_not_kept.ensures.ok
