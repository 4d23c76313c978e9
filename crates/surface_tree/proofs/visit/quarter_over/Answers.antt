use Rattle.std.proofs.Common.{sym, ◌∙◌}
use Rattle.surface_tree.proofs.Visits.{in_north_east, in_north_west, in_south_east}
use Rattle.surface_tree.proofs.visit.quarter_over.Goals as goal

pub returns-then-is_east-clause-point : goal.returns-then-is_east-clause-point
returns-then-is_east-clause-point g c =
    λ i.
    let q = c.args.square.now in
    let e = c.north_east.ensures in
    rw (e.level, e.west, e.south) (in_north_east q.level q.west q.south c.args.x.now c.requires.deep i (sym c.is_east.ensures ∙ c.if-is_east.true) (sym c.is_north.ensures ∙ c.if-is_north.true))

pub returns-else-is_east-clause-point : goal.returns-else-is_east-clause-point
returns-else-is_east-clause-point g c =
    λ i.
    let q = c.args.square.now in
    let e = c.north_west.ensures in
    rw (e.level, e.west, e.south) (in_north_west q.level q.west q.south c.args.x.now c.requires.deep i (sym c.is_east.ensures ∙ c.if-is_east.false) (sym c.is_north.ensures ∙ c.if-is_north.true))

pub returns-then-is_east-2-clause-point : goal.returns-then-is_east-2-clause-point
returns-then-is_east-2-clause-point g c =
    λ i.
    let q = c.args.square.now in
    let e = c.south_east.ensures in
    rw (e.level, e.west, e.south) (in_south_east q.level q.west q.south c.args.x.now c.requires.deep i (sym c.is_east-else-is_north.ensures ∙ c.if-is_east-2.true) (sym c.is_north.ensures ∙ c.if-is_north.false))
