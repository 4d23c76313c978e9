use Rattle.oe_stations.proofs.Putting.{stands_there}
use Rattle.oe_stations.proofs.way_list.search_from.Goals as goal

pub returns-in-Equal-clause-found : goal.returns-in-Equal-clause-found
returns-in-Equal-clause-found c =
    stands_there c.args.list.now c.args.likely c.in-Some.found.now c.key.result c.args.place.now c.cmp.result (λ d. c.in-Some.ensures.lookup.3.1 d) c.key.ensures c.cmp.ensures c.in-Equal.is
