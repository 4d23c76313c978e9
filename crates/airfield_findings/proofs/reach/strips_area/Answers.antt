use Rattle.std.proofs.Common.{◌++◌}
use Rattle.std.proofs.lemmas.List.{take_all}
use Rattle.airfield_findings.proofs.Joins.{join_next}
use Rattle.airfield_findings.proofs.RunwayAreas.{next_runway}
use Rattle.airfield_findings.proofs.ReachFacts.{runways_next}
use Rattle.airfield_findings.proofs.reach.strips_area.Goals as goal

pub loop-strip-preserved : goal.loop-strip-preserved
loop-strip-preserved c =
    let hull = c.args.hull.now in
    let strips = c.args.strips.now in
    let i = c.loop-strip.strip-index in
    let before = c.loop-strip.invariant in
    let six = c.strip_area.ensures.listed in
    record {
      runways = runways_next hull strips i c.strip-item.result c.strip_area.result c.loop-strip.all c.joined-all.result c.loop-strip-test.true c.strip-item.is before.runways c.strip_area.ensures.reach c.joined-all.ensures.exact;
      listed = (
        before.listed.0 ++ six.0,
        next_runway hull strips i c.strip-item.result before.listed.0 six.0 c.loop-strip-test.true c.strip-item.is six.1 before.listed.1,
        join_next hull c.loop-strip.all c.strip_area.result c.joined-all.result before.listed.0 six.0 before.listed.2 six.2 c.joined-all.ensures.exact,
      );
    }

pub returns-clause-runways : goal.returns-clause-runways
returns-clause-runways c = rw (take_all c.loop-strip.strip-index c.args.strips.now c.loop-strip-test.false) at c.loop-strip.invariant.runways

pub returns-clause-listed : goal.returns-clause-listed
returns-clause-listed c =
    let h = c.loop-strip.invariant.listed in
    (h.0, rw (take_all c.loop-strip.strip-index c.args.strips.now c.loop-strip-test.false) at h.1, h.2)
