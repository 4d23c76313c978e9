use Rattle.std.proofs.Common.{rules}
use Rattle.std.proofs.lemmas.List.Sorted.{answers_always}
use Rattle.ordered_list.proofs.list.place.Goals as goal

pub returns-clause-found : goal.returns-clause-found
returns-clause-found g c = c.binary_search_by_key.ensures.position g.T.Keyed.key (answers_always _ _ _ (λ f a r k called. search rules))
