use Rattle.std.proofs.Common.{◌≤◌, ◌+◌, ◌-◌, ◌≡◌, length}
use Rattle.std.specs.Io.KnownBytes.{Keeps, prepend_known}
use Rattle.oe_http.specs.Pending.{FellBy}
use Rattle.oe_http.specs.declared.lines.TheConstants.{INPUT_LIMIT}
use Rattle.http_messages.specs.declared.held.TheConstants.{READ_SIZE}
use Rattle.http_messages.proofs.held.next_head.Given as goal

abbrev pub invariant-loop-spans : goal.invariant-loop-spans
invariant-loop-spans g l = record {
  kept : Keeps (prepend_known l.fn.held.bytes.items (g.S.Source.left l.fn.link)) (prepend_known l.held.bytes.items (g.S.Source.left l.link));
  balance : length l.held.bytes.items + l.fn.held.taken ≡ length l.fn.held.bytes.items + l.held.taken;
  later : g.S.Source.faults l.fn.link ≤ g.S.Source.faults l.link;
  beside : g.S.Source.beside l.link ≡ g.S.Source.beside l.fn.link;
  more : l.fn.held.taken ≤ l.held.taken;
  took : FellBy (l.held.taken - l.fn.held.taken) (g.S.Source.left l.fn.link) (g.S.Source.left l.link);
}

abbrev pub decreases-loop-spans : goal.decreases-loop-spans
decreases-loop-spans g l = INPUT_LIMIT + READ_SIZE - l.held.taken
