use Rattle.ordered_list.proofs.Searches.{search_read, search_none}
use Rattle.ordered_list.proofs.list.OrderedList.find.Goals as goal

pub returns-in-Ok : goal.returns-in-Ok
returns-in-Ok g c =
    rw (← c.self.view_is) (search_read g.T.Key.Ord.cmp g.met.T.Key.Ord.total g.T.Keyed.key c.args.key.now _ _ c.in-Ok.i _ c.self.invariant c.as_slice.ensures.value c.in-Ok.ensures.within c.in-Ok.ensures.found c.index.ensures)

pub returns-in-Err : goal.returns-in-Err
returns-in-Err g c =
    rw (← c.self.view_is) (search_none g.T.Key.Ord.cmp g.met.T.Key.Ord.total g.T.Keyed.key c.args.key.now _ _ _ c.self.invariant c.as_slice.ensures.value c.in-Err.ensures.found)
