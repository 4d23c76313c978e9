use Rattle.http_messages.proofs.TargetFacts.{open_target, not_space, not_uri, none_other}
use Rattle.http_messages.proofs.lines.is_open_target.Goals as goal

pub returns-then-text-at-ne32-clause-no : goal.returns-then-text-at-ne32-clause-no
returns-then-text-at-ne32-clause-no c = λ _. not_space _ _ c.in-Some.ensures.first c.if-text-at-ne32.true

pub returns-else-text-at-ne32-clause-yes : goal.returns-else-text-at-ne32-clause-yes
returns-else-text-at-ne32-clause-yes c = λ e. open_target _ _ c.in-Some.ensures.first c.if-at-eq0.false c.if-text-at-ne32.false
    (rw c.split_at.ensures.back at (c.is_all_uri.ensures.yes e))

pub returns-else-text-at-ne32-clause-no : goal.returns-else-text-at-ne32-clause-no
returns-else-text-at-ne32-clause-no c = λ e. not_uri _ _ c.in-Some.ensures.first (rw c.split_at.ensures.back at (c.is_all_uri.ensures.no e))

pub returns-in-None-clause-no : goal.returns-in-None-clause-no
returns-in-None-clause-no c = λ _. none_other _ c.in-None.ensures.none
