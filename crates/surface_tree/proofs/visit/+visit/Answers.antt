use Rattle.std.proofs.Common.{◌≡◌, ◌+◌, [], length, ◌<◌, arith, refl, subst}
use Rattle.std.proofs.lemmas.List.{append-nil}
use Rattle.surface_tree.proofs.Owned.{rest_none}
use Rattle.surface_tree.proofs.Visits.{bare_none, bare_rest, own_seen, none_seen, hits_more, cost_own}
use Rattle.surface_tree.proofs.visit.+visit.Goals as goal

pub visit_part-returns-in-Bare-clause-seen : goal.visit_part-returns-in-Bare-clause-seen
visit_part-returns-in-Bare-clause-seen g t c =
    λ value i h u xs x.
    let q = c.args.square.now in
    let n = rw c.in-Bare.is at h in
    rw (bare_none g.T.Placed.plot_of value q.west q.south c.args.x.now q.level (q.level + 1) q.level (omega arith) i n, append-nil) x

pub visit_part-returns-in-Quartered-clause-seen : goal.visit_part-returns-in-Quartered-clause-seen
visit_part-returns-in-Quartered-clause-seen g t c =
    λ value i h u xs x.
    let q = c.args.square.now in
    let n = rw c.in-Quartered.is at h in
    c.visit_quarters.ensures.seen value i n.1 u xs (rw (none_seen g.T.Placed.plot_of value q.west q.south c.args.x.now q.level xs i (n.0 (omega arith))) x)

pub visit_part-returns-in-Quartered-clause-cost : goal.visit_part-returns-in-Quartered-clause-cost
visit_part-returns-in-Quartered-clause-cost g t c =
    λ value i h.
    let q = c.args.square.now in
    let n = rw c.in-Quartered.is at h in
    cost_own g.T.Placed.plot_of value q.west q.south c.args.x.now q.level [] c.args.steps.now c.tick.new.self _ i (n.0 (omega arith)) (omega (arith, c.tick.ensures.one)) (c.visit_quarters.ensures.cost value i n.1)

pub visit_part-returns-in-Own-clause-seen : goal.visit_part-returns-in-Own-clause-seen
visit_part-returns-in-Own-clause-seen g t c =
    λ value i h u xs x.
    let q = c.args.square.now in
    let n = rw c.in-Own.is at h in
    let own = rw (c.deref.ensures.value, own_seen g.T.Placed.plot_of value q.west q.south c.args.x.now q.level _ i n.1) at (c.visit_entries.ensures.seen u xs x) in
    c.visit_rest.ensures.seen value i (rw c.deref-in-Own.ensures n.2) u xs own

pub visit_part-returns-in-Own-clause-cost : goal.visit_part-returns-in-Own-clause-cost
visit_part-returns-in-Own-clause-cost g t c =
    λ value i h.
    let q = c.args.square.now in
    let n = rw c.in-Own.is at h in
    let es = c.in-Own.entries.items in
    let m : c.visit_entries.new.steps ≡ c.args.steps.now + 1 + length es = rw (c.deref.ensures.value, c.tick-in-Own.ensures.one) at c.visit_entries.ensures.cost in
    cost_own g.T.Placed.plot_of value q.west q.south c.args.x.now q.level es c.args.steps.now c.visit_entries.new.steps _ i n.1 m (c.visit_rest.ensures.cost value i (rw c.deref-in-Own.ensures n.2))

pub visit_rest-returns-in_default : goal.visit_rest-returns-in_default
visit_rest-returns-in_default g t c =
    let q = c.args.square.now in
    record {
      seen = λ value i h u xs x.
          let n = rest_none g.T.Placed.plot_of value q c.args.rest.now c.args.rest.now refl c.in_default.not-Quartered h in
          subst (g.W.Visitor.seen u c.args.visitor.now) (bare_rest g.T.Placed.plot_of value q.west q.south c.args.x.now q.level xs i n) x;
      cost = λ value i h. omega arith;
    }

pub visit_rest-returns-in-Quartered-clause-cost : goal.visit_rest-returns-in-Quartered-clause-cost
visit_rest-returns-in-Quartered-clause-cost g t c =
    λ value i h.
    let n = rw c.in-Quartered.is at h in
    c.visit_quarters.ensures.cost value i n.1

pub visit_quarters-returns-clause-seen : goal.visit_quarters-returns-clause-seen
visit_quarters-returns-clause-seen g t c =
    λ value i h u xs x.
    let q = c.args.square.now in
    let e = c.quarter_over.ensures in
    let l : 0 < q.level = omega (arith, c.if-square-eq0.false) in
    let all = c.visit_part.ensures.seen value (e.point i) (rw c.deref.ensures (e.holds g.T.Placed.plot_of value h)) u _ x in
    subst (g.W.Visitor.seen u c.visit_part.new.visitor) (hits_more g.T.Placed.plot_of value q.west q.south c.args.x.now q.level xs l) (rw e.level at all)
