use Rattle.std.proofs.Common.{◌+◌, arith}
use Rattle.std.proofs.lemmas.List.{append-nil}
use Rattle.surface_tree.proofs.Visits.{bare_none}
use Rattle.surface_tree.proofs.visit.visit_root.Goals as goal

pub returns-in_default-clause-seen : goal.returns-in_default-clause-seen
returns-in_default-clause-seen g c =
    λ value i h u xs x.
    let q = c.args.square.now in
    let n = rw c.in_default.is at h in
    rw (bare_none g.T.Placed.plot_of value q.west q.south c.args.x.now q.level (q.level + 1) q.level (omega arith) i n, append-nil) x
