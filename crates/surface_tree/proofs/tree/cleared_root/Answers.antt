use Rattle.std.proofs.Common.{◌≡◌, sym, Some}
use Rattle.std.specs.Arc.{arc_value}
use Rattle.std.proofs.lemmas.Result.{IfOk-weaker}
use Rattle.ordered_list.specs.Ordered.{found_by}
use Rattle.ordered_tree.proofs.Order.{none_found}
use Rattle.surface_tree.proofs.Wholes.{fits_found}
use Rattle.surface_tree.proofs.tree.cleared_root.Goals as goal

pub returns-in-None : goal.returns-in-None
returns-in-None g c =
    IfOk-weaker c.shared_root.result _ _
    (λ q h. λ items f k.
    let n = rw c.in-None.is at f.1 in
    rw (none_found g.T.Key.Ord.cmp g.met.T.Key.Ord.total g.T.Placed.key_of c.args.key items (sym n)) (rw h k))
    c.shared_root.ensures

pub returns-in-Some : goal.returns-in-Some
returns-in-Some g c =
    IfOk-weaker c.changed_root.result _ _
    (λ q h. λ items f k.
    let n : found_by g.T.Key.Ord.cmp g.T.Placed.key_of c.args.key items ≡ Some (arc_value c.in-Some.old.now) = sym (let m = rw c.in-Some.is at f.1 in m) in
    let e = c.take.ensures in
    let new = h items (rw (e.key, e.plot, e.item, c.deref.ensures) (fits_found g.T.Key.Ord.cmp g.met.T.Key.Ord.total g.T.Placed.key_of g.T.Placed.plot_of c.args.key (arc_value c.in-Some.old.now) items f.0 n)) k in
    rw (e.key, e.item) at new)
    c.changed_root.ensures
