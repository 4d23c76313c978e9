use Rattle.std.proofs.Common.{◌∙◌, List, ap, sym}
use Rattle.oe_stations.specs.Merging.{with_finding}
use Rattle.oe_stations.specs.declared.way_list.WayFinding.{WayFinding}
use Rattle.oe_stations.proofs.Stations.{next_finding}
use Rattle.oe_stations.proofs.way_list.WayList.put_all.Goals as goal

pub loop-finding-preserved : goal.loop-finding-preserved
loop-finding-preserved c =
    c.in_ok-likely.ensures
    ∙ ap (λ (w : List WayFinding). with_finding c.args.station w c.finding-item.result) c.loop-finding.invariant
    ∙ sym (next_finding c.args.station c.args.self.now c.args.findings.now c.loop-finding.finding-index c.finding-item.result c.loop-finding-test.true c.finding-item.is)
