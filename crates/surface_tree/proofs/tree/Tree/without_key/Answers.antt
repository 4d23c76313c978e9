use Rattle.std.proofs.Common.{sym, ◌∙◌}
use Rattle.ordered_list.proofs.Rising.{Rises-removed, All-removed, found_holds}
use Rattle.surface_tree.specs.Levels.{IsPlaced}
use Rattle.surface_tree.proofs.tree.Tree.without_key.Goals as goal

pub cleared_root-requires : goal.cleared_root-requires
cleared_root-requires g c =
    let n = c.self.invariant in
    record { placed = λ i e. found_holds g.T.Key.Ord.cmp g.met.T.Key.Ord.total g.T.Placed.key_of (λ j. IsPlaced (g.T.Placed.plot_of j)) c.args.key i c.self.inside.by_key n.placed (sym c.find_shared.ensures ∙ e) }

pub invariant_of-result : goal.invariant_of-result
invariant_of-result g c =
    let cmp = g.T.Key.Ord.cmp in
    let total = g.met.T.Key.Ord.total in
    let key = g.T.Placed.key_of in
    let plot = g.T.Placed.plot_of in
    let n = c.self.invariant in
    let v = c.self.inside.by_key in
    let old = c.in_ok-root.ensures v (n.rises, c.find_shared.ensures) n.holds in
    rw (c.in_ok-by_key.ensures) (record {
      rises = Rises-removed cmp total key c.args.key v n.rises;
      placed = All-removed cmp total key (λ j. IsPlaced (plot j)) c.args.key v n.placed;
      holds = old;
    })
