use Rattle.std.proofs.Common.{◌≡◌, ◌≤◌, length}
use Rattle.oe_http.specs.Written.{Sent}
use Rattle.oe_http.proofs.whole.write_whole.Given as goal

abbrev pub invariant-loop-rest : goal.invariant-loop-rest
invariant-loop-rest g l = record {
  sent : Sent (g.O.Sink.held l.fn.output) (g.O.Sink.held l.output) l.text l.rest;
  beside : g.O.Sink.beside l.output ≡ g.O.Sink.beside l.fn.output;
  later : g.O.Sink.faults l.fn.output ≤ g.O.Sink.faults l.output;
}

abbrev pub decreases-loop-rest : goal.decreases-loop-rest
decreases-loop-rest g l = length l.rest
