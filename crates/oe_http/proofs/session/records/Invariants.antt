use Rattle.std.proofs.Common.{◌≤◌, string_bytes}
use Rattle.std.specs.Io.KnownBytes.{append_known}
use Rattle.oe_http.specs.Pending.{unread_bytes, most_left, FellBy}
use Rattle.oe_http.proofs.SessionFacts.{Underway}
use Rattle.oe_http.proofs.WaitingFacts.{Grown}
use Rattle.oe_http.proofs.session.records.Given as goal

abbrev pub invariant-lines : goal.invariant-lines
invariant-lines g l =
    let left = g.S.Source.left in
    let held = g.O.Sink.held in
    record {
      underway : Underway g.A.Answering.step l.fn.desk l.desk (left l.fn.input) (unread_bytes l.reader (left l.input)) (held l.fn.output) (append_known (held l.output) (string_bytes l.waiting));
      grown : Grown (held l.fn.output) (held l.output);
      taken : FellBy l.reader.taken (left l.fn.input) (left l.input);
      read_later : g.S.Source.faults l.fn.input ≤ g.S.Source.faults l.input;
      write_later : g.O.Sink.faults l.fn.output ≤ g.O.Sink.faults l.output;
    }

abbrev pub decreases-lines : goal.decreases-lines
decreases-lines g l = most_left l.reader
