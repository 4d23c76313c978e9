use Rattle.std.proofs.Common.{refl}
use Rattle.http_messages.proofs.HeadFacts.{crowded_refuses, still_open, open_in_target, malformed, too_many_at}
use Rattle.http_messages.proofs.decision.judge.Goals as goal

pub returns-then-is_crowded-clause-decides : goal.returns-then-is_crowded-clause-decides
returns-then-is_crowded-clause-decides c = let x = c.is_crowded.ensures.yes c.if-is_crowded.true in crowded_refuses _ x.0 x.1 x.2 x.3

pub returns-else-is_crowded-clause-decides : goal.returns-else-is_crowded-clause-decides
returns-else-is_crowded-clause-decides c = still_open _ (rw c.in-Ok-Partial.field-0-is at c.in-Ok-Partial.ensures.unfinished)
    (rw c.in-Ok-Partial.field-0-is at c.in-Ok-Partial.ensures.partial) c.requires.short (c.is_crowded.ensures.no c.if-is_crowded.false)

pub returns-in-TooManyHeaders-clause-decides : goal.returns-in-TooManyHeaders-clause-decides
returns-in-TooManyHeaders-clause-decides c = let x = too_many_at _ c.told-headers _
    ((rw c.in-TooManyHeaders.is at c.in-Err.ensures.too_many) refl) in crowded_refuses _ x.0 x.1 x.2 x.3

pub returns-then-is_crowded-2 : goal.returns-then-is_crowded-2
returns-then-is_crowded-2 c = let x = c.is_crowded-in_default.ensures.yes c.if-is_crowded-2.true in record { same = c.is_crowded-in_default.ensures.same; decides = crowded_refuses _ x.0 x.1 x.2 x.3 }

pub returns-then-ends_in_target : goal.returns-then-ends_in_target
returns-then-ends_in_target c = record {
  same = c.is_crowded-in_default.ensures.same;
  decides = open_in_target _
      (rw c.is_crowded-in_default.ensures.same at (c.ends_in_target.ensures.yes c.if-ends_in_target.true))
      (c.in-Err.ensures.invalid c.in_default.not-TooManyHeaders) c.requires.short (c.is_crowded-in_default.ensures.no c.if-is_crowded-2.false);
}

pub returns-else-ends_in_target : goal.returns-else-ends_in_target
returns-else-ends_in_target c = record {
  same = c.is_crowded-in_default.ensures.same;
  decides = malformed _
      (c.in-Err.ensures.invalid c.in_default.not-TooManyHeaders) (rw c.is_crowded-in_default.ensures.same at
      (c.ends_in_target.ensures.no c.if-ends_in_target.false)) c.requires.short (c.is_crowded-in_default.ensures.no c.if-is_crowded-2.false);
}
