use Rattle.airfield_findings.proofs.EntryFacts.{where_ok}
use Rattle.oe_asof.proofs.TextFacts.{four}
use Rattle.oe_asof.proofs.told.append_as_of.Goals as goal

pub returns-clause-ok : goal.returns-clause-ok
returns-clause-ok c =
    where_ok c.append_text-2.result (λ t. four _ _ _ _ _ _ _ _ _ c.in_ok-append_text.ensures.ok c.in_ok-append_number.ensures.ok c.in_ok-append_list.ensures.ok t) c.append_text-2.ensures.ok
