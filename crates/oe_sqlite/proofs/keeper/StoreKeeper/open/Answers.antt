use Rattle.oe_sqlite.proofs.keeper.StoreKeeper.open.Goals as goal

pub returns-in_ok-open-in-Some-clause-file : goal.returns-in_ok-open-in-Some-clause-file
returns-in_ok-open-in-Some-clause-file g c some clean = (c.in_ok-open-in-Some.ensures.opened clean, c.in_ok-open-in-Some.ensures.found clean)
