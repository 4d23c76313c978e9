use Rattle.std.proofs.Common.{rules}
use Rattle.std.proofs.lemmas.List.Sorted.{answers_always}
use Rattle.oe_asof.specs.Versions.{number_of}
use Rattle.oe_asof.proofs.history.place.Goals as goal

pub returns-clause-found : goal.returns-clause-found
returns-clause-found c = c.binary_search_by_key.ensures.position number_of (answers_always _ _ _ (λ f a r k called. search rules))
