use Rattle.std.proofs.Common.{◌∙◌, ap, replicate}
use Rattle.tree_versions.proofs.publisher.Publisher.open.Goals as goal

pub returns-in-Ok-fill-clause-seats : goal.returns-in-Ok-fill-clause-seats
returns-in-Ok-fill-clause-seats g c = c.in-Ok-fill.ensures ∙ ap (λ f. replicate c.args.seats (record { front = f; told = f })) c.begin-history.ensures
