use Rattle.ordered_list.proofs.Searches.{search_taken, search_left}
use Rattle.surface_tree.specs.Parts.{item_of}
use Rattle.surface_tree.proofs.entry.take_entry.Goals as goal

pub returns-in-Ok : goal.returns-in-Ok
returns-in-Ok g c =
    λ r.
    rw c.remove.ensures.items
    (search_taken g.T.Key.Ord.cmp g.met.T.Key.Ord.total (λ e. g.T.Placed.key_of (item_of e)) c.args.key _ _ c.in-Ok.i c.remove.result r c.deref.ensures.value c.in-Ok.ensures.within c.in-Ok.ensures.found)

pub returns-in-Err : goal.returns-in-Err
returns-in-Err g c =
    λ r. search_left g.T.Key.Ord.cmp g.met.T.Key.Ord.total (λ e. g.T.Placed.key_of (item_of e)) c.args.key _ _ c.in-Err.field-0 r c.deref.ensures.value c.in-Err.ensures.found
