use Rattle.std.proofs.Common.{◌≡◌, ap, sym, ◌∙◌}
use Rattle.std.specs.Arc.{arc_value}
use Rattle.ordered_list.specs.Ordered.{put_by}
use Rattle.ordered_list.proofs.Rising.{Rises-put, All-put, found_holds}
use Rattle.surface_tree.specs.Levels.{IsPlaced}
use Rattle.surface_tree.proofs.tree.Tree.with.Goals as goal

pub replaced_root-requires-clause-found : goal.replaced_root-requires-clause-found
replaced_root-requires-clause-found g c =
    let n = c.self.invariant in
    λ i e. found_holds g.T.Key.Ord.cmp g.met.T.Key.Ord.total g.T.Placed.key_of (λ j. IsPlaced (g.T.Placed.plot_of j)) c.key.result i c.self.inside.by_key n.placed (sym c.find_shared-old.ensures ∙ e)

pub invariant_of-result : goal.invariant_of-result
invariant_of-result g c =
    let cmp = g.T.Key.Ord.cmp in
    let total = g.met.T.Key.Ord.total in
    let key = g.T.Placed.key_of in
    let plot = g.T.Placed.plot_of in
    let n = c.self.invariant in
    let v = c.self.inside.by_key in
    let x = arc_value c.args.item in
    let k : c.key.result ≡ key x = c.key.ensures ∙ ap key c.deref.ensures in
    let list : c.in_ok-by_key.by_key ≡ put_by cmp key x v = c.in_ok-by_key.ensures ∙ ap (λ z. put_by cmp key z v) c.in_ok-try_clone.ensures in
    rw list (record {
      rises = Rises-put cmp total key x v n.rises;
      placed = All-put cmp total key (λ j. IsPlaced (plot j)) x v c.requires n.placed;
      holds = c.in_ok-root.ensures v (n.rises, (rw k at c.find_shared-old.ensures)) n.holds;
    })
