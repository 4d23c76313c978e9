use Rattle.std.proofs.Common.{ap, Some}
use Rattle.http_messages.proofs.LineFacts.{behind_found, none_behind, none_visible}
use Rattle.http_messages.proofs.lines.behind_fields.Goals as goal

pub returns-in-Some-behind_lines-clause-found : goal.returns-in-Some-behind_lines-clause-found
returns-in-Some-behind_lines-clause-found c = λ h b rest good full e. ap Some (behind_found _ _ _ c.in-Some.ensures.first
    (rw c.split_at.ensures.back at c.in-Some-behind_lines.ensures.some) h b rest good full e)

pub returns-in-None-behind_lines-clause-found : goal.returns-in-None-behind_lines-clause-found
returns-in-None-behind_lines-clause-found c = λ h b rest good full e. absurd (none_behind _ _ c.in-Some.ensures.first
    (rw c.split_at.ensures.back at c.in-None-behind_lines.ensures.none) h b rest good full e)

pub returns-in-None-clause-found : goal.returns-in-None-clause-found
returns-in-None-clause-found c = λ h b rest good full e. absurd (none_visible _ c.in-None.ensures.none h _ good e)
