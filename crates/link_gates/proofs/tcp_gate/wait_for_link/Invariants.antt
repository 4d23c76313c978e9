use Rattle.std.proofs.Common.{◌≤◌, ◌<◌}
use Rattle.oe_http.specs.Causes.{Rose}
use Rattle.link_gates.proofs.tcp_gate.wait_for_link.Given as goal

abbrev pub invariant-loop : goal.invariant-loop
invariant-loop g l = (l.fn.faults ≤ l.faults) × (0 < l.counter → Rose l.fn.faults l.faults)
