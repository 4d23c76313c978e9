use Rattle.std.proofs.Common.{rules}
use Rattle.std.proofs.lemmas.List.Sorted.{answers_always}
use Rattle.oe_stations.specs.Ways.{way_place}
use Rattle.oe_stations.proofs.way_list.search.Goals as goal

pub returns-clause-found : goal.returns-clause-found
returns-clause-found c = c.binary_search_by_key.ensures.position way_place (answers_always _ _ _ (λ f a r k called. search rules))
