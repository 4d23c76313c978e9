use Rattle.std.proofs.Common.{◌≡◌, ◌≤◌, ◌+◌, ◌*◌, ℕ, take}
use Rattle.surface_tree.specs.declared.square.TheConstants.{TOP_LEVEL}
use Rattle.oe_stations.specs.Ways.{AreNearWay}
use Rattle.oe_stations.proofs.Stations.{so_far}
use Rattle.oe_stations.proofs.merging.way_findings.Given as goal

-- the list has the findings of the stations so far
abbrev pub invariant-loop-filing : goal.invariant-loop-filing
invariant-loop-filing g l = record {
  number : l.station ≡ l.filing-index;
  listed : l.list ≡ so_far l.sky l.filing-items l.filing-index;
  counted : (n : ℕ) → AreNearWay l.sky (take l.filing-index l.filing-items) n → l.steps ≤ l.fn.steps + (l.filing-index * (TOP_LEVEL + 1) + n);
}
