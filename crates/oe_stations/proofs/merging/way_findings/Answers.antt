use Rattle.std.proofs.Common.{◌+◌, arith}
use Rattle.oe_stations.proofs.Stations.{finished, joined, next_near, within_way}
use Rattle.oe_stations.proofs.merging.way_findings.Goals as goal

pub loop-filing-preserved : goal.loop-filing-preserved
loop-filing-preserved g c =
    let stations = c.stations-filing-items.result.now in
    let i = c.loop-filing.filing-index in
    let s = c.filing-item.result in
    record {
      number = omega (arith, c.loop-filing.invariant.number);
      listed = joined c.args.sky.now stations i c.loop-filing.station c.loop-filing.list c.put_all.new.self c.as_slice.result.now c.find.new.list s c.loop-filing-test.true c.filing-item.is
          c.loop-filing.invariant.number c.loop-filing.invariant.listed c.as_slice.ensures c.in_ok-find.ensures.found c.in_ok-put_all.ensures;
      counted = next_near c.args.sky.now stations i 15 c.args.steps.now c.loop-filing.steps c.find.new.steps s c.loop-filing-test.true c.filing-item.is c.loop-filing.invariant.counted c.in_ok-find.ensures.near;
    }

pub returns-in_err-find-clause-near : goal.returns-in_err-find-clause-near
returns-in_err-find-clause-near g c =
    let stations = c.stations-filing-items.result.now in
    let i = c.loop-filing.filing-index in
    within_way c.args.sky.now c.args.way.now stations (i + 1) 15 c.args.steps.now c.find.new.steps c.stations-filing-items.ensures.same (omega (arith, c.loop-filing-test.true))
    (next_near c.args.sky.now stations i 15 c.args.steps.now c.loop-filing.steps c.find.new.steps c.filing-item.result c.loop-filing-test.true c.filing-item.is c.loop-filing.invariant.counted c.find.ensures.near)

pub returns-in_err-put_all-clause-near : goal.returns-in_err-put_all-clause-near
returns-in_err-put_all-clause-near g c =
    let stations = c.stations-filing-items.result.now in
    let i = c.loop-filing.filing-index in
    within_way c.args.sky.now c.args.way.now stations (i + 1) 15 c.args.steps.now c.find.new.steps c.stations-filing-items.ensures.same (omega (arith, c.loop-filing-test.true))
    (next_near c.args.sky.now stations i 15 c.args.steps.now c.loop-filing.steps c.find.new.steps c.filing-item.result c.loop-filing-test.true c.filing-item.is c.loop-filing.invariant.counted c.in_ok-find.ensures.near)

pub returns-clause-found : goal.returns-clause-found
returns-clause-found g c =
    finished c.args.sky.now c.args.way.now c.stations-filing-items.result.now c.loop-filing.filing-index c.loop-filing.list c.stations-filing-items.ensures.same c.loop-filing-test.false c.loop-filing.invariant.listed

pub returns-clause-near : goal.returns-clause-near
returns-clause-near g c =
    within_way c.args.sky.now c.args.way.now c.stations-filing-items.result.now c.loop-filing.filing-index 15 c.args.steps.now c.loop-filing.steps c.stations-filing-items.ensures.same (omega arith) c.loop-filing.invariant.counted
