use Rattle.std.proofs.Common.{◌≤◌}
use Rattle.oe_http.specs.Pending.{FellBy}
use Rattle.http_messages.specs.Messages.{most_left, unread_of}
use Rattle.http_session.specs.Endings.{RunsTo}
use Rattle.http_session.proofs.UnderwayFacts.{Underway}
use Rattle.http_session.proofs.link.session.Given as goal

abbrev pub invariant-messages : goal.invariant-messages
invariant-messages g l =
    let left = g.L.Source.left in
    let held = g.L.Sink.held in
    record {
      underway : Underway g.A.Replying.step l.fn.desk l.desk (left l.fn.link) (unread_of l.held (left l.link)) (held l.fn.link) (held l.link) l.waiting.items;
      carried : RunsTo g.A.Replying.step l.fn.desk l.desk (left l.fn.link) (unread_of l.held (left l.link));
      took : FellBy l.held.taken (left l.fn.link) (left l.link);
      read_later : g.L.Source.faults l.fn.link ≤ g.L.Source.faults l.link;
      write_later : g.L.Sink.faults l.fn.link ≤ g.L.Sink.faults l.link;
    }

abbrev pub decreases-messages : goal.decreases-messages
decreases-messages g l = most_left l.held
