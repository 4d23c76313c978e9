use Rattle.std.proofs.Common.{Some, ◌∙◌, ap}
use Rattle.ordered_list.proofs.Rising.{Rises-put}
use Rattle.ordered_list.proofs.Searches.{search_read, search_none, search_written, search_inserted}
use Rattle.ordered_list.proofs.list.OrderedList.put.Goals as goal

pub invariant_of-self : goal.invariant_of-self
invariant_of-self g c =
    let put = search_written g.T.Key.Ord.cmp g.met.T.Key.Ord.total g.T.Keyed.key c.args.item c.key.result _ _ c.in-Ok.i c.key.ensures c.self.invariant c.as_slice.ensures.value c.in-Ok.ensures.within c.in-Ok.ensures.found in
    rw (c.replace-before.ensures.after, put) (Rises-put g.T.Key.Ord.cmp g.met.T.Key.Ord.total g.T.Keyed.key c.args.item _ c.self.invariant)

pub returns-in-Ok-clause-put : goal.returns-in-Ok-clause-put
returns-in-Ok-clause-put g c =
    rw (c.replace-before.ensures.after, ← c.self.view_is)
    (search_written g.T.Key.Ord.cmp g.met.T.Key.Ord.total g.T.Keyed.key c.args.item c.key.result _ _ c.in-Ok.i c.key.ensures c.self.invariant c.as_slice.ensures.value c.in-Ok.ensures.within c.in-Ok.ensures.found)

pub returns-in-Ok-clause-before : goal.returns-in-Ok-clause-before
returns-in-Ok-clause-before g c =
    rw (← c.self.view_is, ← c.key.ensures)
    (ap Some c.replace-before.ensures.value
    ∙ search_read g.T.Key.Ord.cmp g.met.T.Key.Ord.total g.T.Keyed.key c.key.result _ _ c.in-Ok.i _ c.self.invariant c.as_slice.ensures.value c.in-Ok.ensures.within c.in-Ok.ensures.found c.index_mut.ensures.value)

pub invariant_of-self-in-Err : goal.invariant_of-self-in-Err
invariant_of-self-in-Err g c =
    let put = search_inserted g.T.Key.Ord.cmp g.met.T.Key.Ord.total g.T.Keyed.key c.args.item c.key.result _ _ c.in-Err.i c.key.ensures c.self.invariant c.as_slice.ensures.value c.in-Err.ensures.within c.in-Err.ensures.found in
    rw (c.in_ok-insert-in-Err.ensures.items, put) (Rises-put g.T.Key.Ord.cmp g.met.T.Key.Ord.total g.T.Keyed.key c.args.item _ c.self.invariant)

pub returns-in_ok-insert-in-Err-clause-put : goal.returns-in_ok-insert-in-Err-clause-put
returns-in_ok-insert-in-Err-clause-put g c =
    rw (c.in_ok-insert-in-Err.ensures.items, ← c.self.view_is)
    (search_inserted g.T.Key.Ord.cmp g.met.T.Key.Ord.total g.T.Keyed.key c.args.item c.key.result _ _ c.in-Err.i c.key.ensures c.self.invariant c.as_slice.ensures.value c.in-Err.ensures.within c.in-Err.ensures.found)

pub returns-in_ok-insert-in-Err-clause-before : goal.returns-in_ok-insert-in-Err-clause-before
returns-in_ok-insert-in-Err-clause-before g c =
    rw (← c.self.view_is, ← c.key.ensures) (search_none g.T.Key.Ord.cmp g.met.T.Key.Ord.total g.T.Keyed.key c.key.result _ _ _ c.self.invariant c.as_slice.ensures.value c.in-Err.ensures.found)
