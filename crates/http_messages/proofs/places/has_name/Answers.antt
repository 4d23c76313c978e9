use Rattle.std.proofs.Common.{◌∙◌}
use Rattle.http_messages.proofs.SeekFacts.{other_front, differ}
use Rattle.http_messages.proofs.places.has_name.Goals as goal

pub returns-then-ne-clause-no : goal.returns-then-ne-clause-no
returns-then-ne-clause-no c = λ _ name good e. other_front _ _ name (λ f. differ _ _ _ c.ne.ensures c.if-ne.true (c.split_at.ensures.front ∙ f)) e
