use Rattle.filing_desk.proofs.Serving.{told_by_none}
use Rattle.filing_desk.proofs.opening.Clerk+NoKeeper.unkept.Goals as goal

pub empty-requires-clause-told : goal.empty-requires-clause-told
empty-requires-clause-told c = told_by_none _ _ _ (λ rows t. t)
