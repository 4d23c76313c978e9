use Rattle.std.proofs.lemmas.List.{take_all}
use Rattle.airfield_findings.proofs.ReachFacts.{enclosed_next, least_next}
use Rattle.airfield_findings.proofs.reach.joined_all.Goals as goal

pub loop-area-preserved : goal.loop-area-preserved
loop-area-preserved c =
    let i = c.loop-area.area-index in
    record {
      holds = enclosed_next c.args.areas.now i _ c.loop-area.all c.joined-all.result c.loop-area-test.true c.loop-area.invariant.holds c.joined-all.ensures.exact;
      least = λ b h. least_next c.args.areas.now i _ c.loop-area.all c.joined-all.result b c.loop-area-test.true c.joined-all.ensures.exact (c.loop-area.invariant.least b h) h;
    }

pub returns : goal.returns
returns c = record {
  holds = rw (take_all c.loop-area.area-index c.args.areas.now c.loop-area-test.false) at c.loop-area.invariant.holds;
  least = c.loop-area.invariant.least;
}
