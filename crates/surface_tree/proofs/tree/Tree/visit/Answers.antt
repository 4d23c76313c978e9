use Rattle.std.proofs.Common.{◌+◌, ◌≤◌, ◌++◌, arith, subst, List, count_by, option_map}
use Rattle.std.specs.Arc.{arc_value}
use Rattle.std.specs.List.{filter}
use Rattle.std.specs.List.Sorted.{IsPermutation}
use Rattle.grid_exact.specs.Area.{has_point}
use Rattle.grid_exact.specs.declared.point.Point.{Point}
use Rattle.surface_tree.specs.Squares.{IsIn}
use Rattle.surface_tree.specs.Visits.{all_hits, close_area, near_area}
use Rattle.surface_tree.specs.Parts.{SomeHolds}
use Rattle.surface_tree.proofs.Wholes.{order_whole, seen_whole, looks_whole, close_count, whole_in}
use Rattle.surface_tree.proofs.tree.Tree.visit.Goals as goal

pub returns-clause-order : goal.returns-clause-order
returns-clause-order g c =
    λ u xs s.
    let x = c.of-spot.result in
    let w = c.whole.result in
    let e = c.whole.ensures in
    let v = c.self.inside.by_key in
    let i : IsIn w.level w.west w.south x = rw (e.level, e.west, e.south) (whole_in x) in
    let h : SomeHolds g.T.Placed.plot_of v w.level w.west w.south (option_map arc_value c.self.inside.root) = rw (e.level, e.west, e.south) c.self.invariant.holds in
    let P : List g.row.T.Denot → Type 0 = λ zs. g.W.Visitor.seen u c.visit_root.new.visitor (xs ++ all_hits g.T.Placed.plot_of x zs) in
    subst (λ (p : Point). g.W.Visitor.seen u c.visit_root.new.visitor (xs ++ all_hits g.T.Placed.plot_of p c.args.self.now)) c.of-spot.ensures
    (subst P c.self.view_is (order_whole g.T.Placed.plot_of x (g.W.Visitor.seen u c.visit_root.new.visitor) w.level v xs e.level (c.visit_root.ensures.seen v i h u xs s)))

pub returns-clause-seen : goal.returns-clause-seen
returns-clause-seen g c =
    λ u xs s.
    let x = c.of-spot.result in
    let w = c.whole.result in
    let e = c.whole.ensures in
    let v = c.self.inside.by_key in
    let i : IsIn w.level w.west w.south x = rw (e.level, e.west, e.south) (whole_in x) in
    let h : SomeHolds g.T.Placed.plot_of v w.level w.west w.south (option_map arc_value c.self.inside.root) = rw (e.level, e.west, e.south) c.self.invariant.holds in
    let P : List g.row.T.Denot → Type 0 = λ zs. (ys : List g.row.T.Denot) × IsPermutation (filter (λ i. has_point (g.T.Placed.plot_of i).area x) zs) ys × g.W.Visitor.seen u c.visit_root.new.visitor (xs ++ ys) in
    subst (λ (p : Point). (ys : List g.row.T.Denot) × IsPermutation (filter (λ i. has_point (g.T.Placed.plot_of i).area p) c.args.self.now) ys × g.W.Visitor.seen u c.visit_root.new.visitor (xs ++ ys)) c.of-spot.ensures
    (subst P c.self.view_is (seen_whole g.T.Placed.plot_of x (g.W.Visitor.seen u c.visit_root.new.visitor) w.level v xs e.level c.self.invariant.placed (c.visit_root.ensures.seen v i h u xs s)))

pub returns-clause-close : goal.returns-clause-close
returns-clause-close g c =
    let x = c.of-spot.result in
    let w = c.whole.result in
    let e = c.whole.ensures in
    let v = c.self.inside.by_key in
    let i : IsIn w.level w.west w.south x = rw (e.level, e.west, e.south) (whole_in x) in
    let h : SomeHolds g.T.Placed.plot_of v w.level w.west w.south (option_map arc_value c.self.inside.root) = rw (e.level, e.west, e.south) c.self.invariant.holds in
    let a = c.visit_root.ensures.cost v i h in
    let b = looks_whole g.T.Placed.plot_of x w.level v e.level c.self.invariant.placed in
    subst (λ (p : Point). c.visit_root.new.steps ≤ c.args.steps.now + 15 + count_by (λ i. close_area p (g.T.Placed.plot_of i)) c.args.self.now) c.of-spot.ensures
    (subst (λ zs. c.visit_root.new.steps ≤ c.args.steps.now + 15 + count_by (λ i. close_area x (g.T.Placed.plot_of i)) zs) c.self.view_is (omega (arith, a, b, e.level)))

pub returns-clause-cost : goal.returns-clause-cost
returns-clause-cost g c =
    let x = c.of-spot.result in
    let w = c.whole.result in
    let e = c.whole.ensures in
    let v = c.self.inside.by_key in
    let i : IsIn w.level w.west w.south x = rw (e.level, e.west, e.south) (whole_in x) in
    let h : SomeHolds g.T.Placed.plot_of v w.level w.west w.south (option_map arc_value c.self.inside.root) = rw (e.level, e.west, e.south) c.self.invariant.holds in
    let a = c.visit_root.ensures.cost v i h in
    let b = looks_whole g.T.Placed.plot_of x w.level v e.level c.self.invariant.placed in
    let n = close_count g.T.Placed.plot_of x v c.self.invariant.placed in
    subst (λ (p : Point). c.visit_root.new.steps ≤ c.args.steps.now + 15 + count_by (λ i. near_area p (g.T.Placed.plot_of i).area) c.args.self.now) c.of-spot.ensures
    (subst (λ zs. c.visit_root.new.steps ≤ c.args.steps.now + 15 + count_by (λ i. near_area x (g.T.Placed.plot_of i).area) zs) c.self.view_is (omega (arith, a, b, n, e.level)))
