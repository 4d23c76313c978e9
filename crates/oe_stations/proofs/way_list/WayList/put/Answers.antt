use Rattle.oe_stations.proofs.Putting.{inserted, rises_inserted, rises_written, stays, written}
use Rattle.oe_stations.proofs.way_list.WayList.put.Goals as goal

pub invariant_of-self : goal.invariant_of-self
invariant_of-self c =
    rises_written c.self.inside.list.items c.as_slice.result.now c.in-Ok.i c.args.station c.args.finding.now c.key.result c.self.invariant c.as_slice.ensures.value c.key.ensures c.in-Ok.ensures.within
    c.in-Ok.ensures.found

pub returns-then-is_as_great : goal.returns-then-is_as_great
returns-then-is_as_great c =
    rw (← c.self.view_is)
    (stays c.self.inside.list.items c.as_slice.result.now c.in-Ok.i c.args.station c.args.finding.now c.key.result c.self.invariant c.as_slice.ensures.value c.key.ensures c.index.result.now
    c.is_as_great.result c.in-Ok.ensures.within c.in-Ok.ensures.found c.index.ensures c.is_as_great.ensures c.if-is_as_great.true)

pub returns-else-is_as_great : goal.returns-else-is_as_great
returns-else-is_as_great c =
    rw (← c.self.view_is)
    (written c.self.inside.list.items c.as_slice.result.now c.in-Ok.i c.args.station c.args.finding.now c.key.result c.self.invariant c.as_slice.ensures.value c.key.ensures c.index.result.now
    c.is_as_great.result c.in-Ok.ensures.within c.in-Ok.ensures.found c.index.ensures c.is_as_great.ensures c.if-is_as_great.false)

pub invariant_of-self-in-Err : goal.invariant_of-self-in-Err
invariant_of-self-in-Err c =
    rw (c.in_ok-insert-in-Err.ensures.items)
    (rises_inserted c.self.inside.list.items c.as_slice.result.now c.in-Err.i c.args.station c.args.finding.now c.key.result c.self.invariant c.as_slice.ensures.value c.key.ensures c.in-Err.ensures.within
    c.in-Err.ensures.found)

pub returns-in_ok-insert-in-Err : goal.returns-in_ok-insert-in-Err
returns-in_ok-insert-in-Err c =
    rw (c.in_ok-insert-in-Err.ensures.items, ← c.self.view_is)
    (inserted c.self.inside.list.items c.as_slice.result.now c.in-Err.i c.args.station c.args.finding.now c.key.result c.self.invariant c.as_slice.ensures.value c.key.ensures c.in-Err.ensures.within
    c.in-Err.ensures.found)
