use Rattle.std.proofs.Common.{◌∙◌}
use Rattle.std.specs.Arc.{arc_value}
use Rattle.std.proofs.lemmas.Result.{IfOk-weaker}
use Rattle.ordered_list.specs.Ordered.{removed_by}
use Rattle.ordered_tree.proofs.Order.{put_removed}
use Rattle.surface_tree.proofs.Wholes.{fits_new, fits_covered}
use Rattle.surface_tree.proofs.tree.replaced_root.Goals as goal

pub returns-then-is_covered : goal.returns-then-is_covered
returns-then-is_covered g c =
    let cmp = g.T.Key.Ord.cmp in
    let total = g.met.T.Key.Ord.total in
    let key = g.T.Placed.key_of in
    let plot = g.T.Placed.plot_of in
    let x = arc_value c.args.item in
    let e = c.put-edit.ensures in
    let there = c.is_covered.ensures c.if-is_covered.true in
    IfOk-weaker c.changed_root.result _ _
    (λ q h. λ items f r.
    let new = h items (rw (e.key, e.plot, e.item) (fits_covered cmp total key plot x items f.0 (λ i o. rw e.plot at (there i (f.1 ∙ o))))) r in
    rw (e.key, e.item) at new)
    c.changed_root.ensures

pub returns : goal.returns
returns g c =
    let cmp = g.T.Key.Ord.cmp in
    let total = g.met.T.Key.Ord.total in
    let key = g.T.Placed.key_of in
    let plot = g.T.Placed.plot_of in
    let x = arc_value c.args.item in
    let e = c.put-edit.ensures in
    IfOk-weaker c.changed_root-2.result _ _
    (λ q h. λ items f r.
    let old = c.in_ok-root.ensures items (rw e.key f) r in
    let new = h (removed_by cmp key c.put-edit.result.key items) (rw (e.key, e.plot, e.item) (fits_new cmp total key plot x items f.0)) old in
    rw (e.key, e.item, put_removed cmp total key x items f.0) at new)
    c.changed_root-2.ensures
