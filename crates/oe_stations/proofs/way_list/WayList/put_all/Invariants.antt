use Rattle.std.proofs.Common.{◌≡◌, take}
use Rattle.oe_stations.specs.Merging.{with_findings}
use Rattle.oe_stations.proofs.way_list.WayList.put_all.Given as goal

-- the findings so far are in their places
abbrev pub invariant-loop-finding : goal.invariant-loop-finding
invariant-loop-finding l = l.self ≡ with_findings l.station l.fn.self (take l.finding-index l.findings)
