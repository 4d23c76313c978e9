use Rattle.std.proofs.Common.{◌≡◌, ◌≤◌, false, List, Some, All, map, vec_len, vec_capacity}
use Rattle.link_gates.specs.Ports.{NoneLeft}
use Rattle.link_gates.proofs.OpenFacts.{Opens}
use Rattle.link_gates.proofs.open.open_ports.Given as goal

abbrev pub invariant-loop : goal.invariant-loop
invariant-loop g l =
    let out = g.G.Port.Port.out in
    (vec_len l.ports ≡ l.counter) × (vec_capacity l.ports ≡ l.count) × (g.G.Gate.faults l.fn.gate ≤ g.G.Gate.faults l.gate)
    × (g.G.Gate.IsSteady l.fn.gate → g.G.Gate.IsSteady l.gate × All g.G.Port.Port.IsSteady l.ports.items)
    × All (λ port. (out port ≡ false) × NoneLeft (g.G.Port.Port.given port)) l.ports.items
    × ((lists : List (List g.row.G-Port-Link.Denot)) → g.G.Gate.lists l.fn.gate ≡ Some lists → Opens l.counter lists (g.G.Gate.lists l.gate) (map g.G.Port.Port.links l.ports.items))
