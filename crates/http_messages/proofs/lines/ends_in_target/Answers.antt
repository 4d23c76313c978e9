use Rattle.http_messages.proofs.TargetFacts.{in_target_yes, no_ends, not_open, not_visible}
use Rattle.http_messages.proofs.lines.ends_in_target.Goals as goal

pub returns-then-not-has_whole_ends-clause-no : goal.returns-then-not-has_whole_ends-clause-no
returns-then-not-has_whole_ends-clause-no c = λ _. no_ends _ _ c.in-Some.ensures.first (c.has_whole_ends.ensures.no c.if-not-has_whole_ends.true)

pub returns-else-not-has_whole_ends-clause-yes : goal.returns-else-not-has_whole_ends-clause-yes
returns-else-not-has_whole_ends-clause-yes c = λ e. in_target_yes _ _ c.in-Some.ensures.first
    (c.has_whole_ends.ensures.yes c.if-not-has_whole_ends.false) (rw c.split_at.ensures.back at (c.is_open_target.ensures.yes e))

pub returns-else-not-has_whole_ends-clause-no : goal.returns-else-not-has_whole_ends-clause-no
returns-else-not-has_whole_ends-clause-no c = λ e. not_open _ _ c.in-Some.ensures.first (rw c.split_at.ensures.back at
    (c.is_open_target.ensures.no e))

pub returns-in-None-clause-no : goal.returns-in-None-clause-no
returns-in-None-clause-no c = λ _. not_visible _ c.in-None.ensures.none
