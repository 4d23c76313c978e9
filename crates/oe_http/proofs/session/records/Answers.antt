use Rattle.std.proofs.Common.{arith, rules, ◌≡◌, ◌∙◌, refl, sym}
use Rattle.grid_exact.proofs.Extending.{Extends-same}
use Rattle.oe_http.proofs.SessionFacts.{underway_on, underway_end, fell_more}
use Rattle.oe_http.proofs.WaitingFacts.{underway_moved, grown_moved, begun_moved, carried_moved, goes_on, underway_sent, sent_whole}
use Rattle.oe_http.proofs.EndingFacts.{completes, failed_read, no_write, not_read, rose_since, written_err, written_end}
use Rattle.oe_http.specs.declared.lines.ReadError.TheVariants as errors
use Rattle.oe_http.proofs.session.records.Goals as goal

pub returns-in-Err-clause-begun : goal.returns-in-Err-clause-begun
returns-in-Err-clause-begun g c =
    begun_moved g.A.Answering.step _ _ _ _ _ _ _ _ _ c.lines.invariant.underway c.lines.invariant.grown c.in-Err.ensures.err.1

pub returns-in-Err-clause-carried : goal.returns-in-Err-clause-carried
returns-in-Err-clause-carried g c =
    carried_moved g.A.Answering.step _ _ _ _ _ _ _ _ _ _ c.lines.invariant.underway c.lines.invariant.grown c.in-Err.ensures.err.1 (goes_on g.A.Answering.step _ _ _ refl)

pub lines-preserved : goal.lines-preserved
lines-preserved g c =
    let u = underway_moved g.A.Answering.step _ _ _ _ _ _ _ _ _ c.lines.invariant.underway c.in-Ok.ensures.ok in
    let replies = rw c.in-Ok-true.field-0-test at c.in-Ok-true.ensures.replies in
    record {
      underway = underway_on g.A.Answering.step _ _ _ _ _ _ _ _ _ u (replies (g.O.Sink.held c.send_due.new.output));
      grown = grown_moved _ _ _ _ _ c.lines.invariant.grown c.in-Ok.ensures.ok;
      taken = fell_more _ _ _ _ _ c.lines.invariant.taken c.next_reply.ensures.reads.more c.next_reply.ensures.reads.taken;
      read_later = omega (arith, c.next_reply.ensures.reads.later, c.lines.invariant.read_later);
      write_later = grind (arith, c.in-Ok.ensures.cause, c.lines.invariant.write_later);
    }

pub returns-in-Ok-false-clause-closed : goal.returns-in-Ok-false-clause-closed
returns-in-Ok-false-clause-closed g c = λ e.
    let u = underway_moved g.A.Answering.step _ _ _ _ _ _ _ _ _ c.lines.invariant.underway c.in-Ok.ensures.ok in
    let replies = rw c.in-Ok-false.field-0-test at c.in-Ok-false.ensures.replies in
    let sent = sent_whole _ _ _ _ _ _ _ (Extends-same _ _ replies.1) c.as_bytes.ensures.value (search rules) (c.end.ensures.all (rw e (λ f. absurd (cc)))) in
    rw replies.2 (underway_end g.A.Answering.step _ _ _ _ _ _ _ (underway_sent g.A.Answering.step _ _ _ _ _ _ _ _ u sent) replies.0)

pub returns-in-Ok-false-clause-written : goal.returns-in-Ok-false-clause-written
returns-in-Ok-false-clause-written g c =
    let u = underway_moved g.A.Answering.step _ _ _ _ _ _ _ _ _ c.lines.invariant.underway c.in-Ok.ensures.ok in
    let replies = rw c.in-Ok-false.field-0-test at c.in-Ok-false.ensures.replies in
    written_end g.A.Answering.step _ _ _ _ _ _ _ _ _ c.next_reply.new.reader _ u replies.0 c.end.ensures.other

pub returns-in-Ok-false-clause-begun : goal.returns-in-Ok-false-clause-begun
returns-in-Ok-false-clause-begun g c =
    let u = underway_moved g.A.Answering.step _ _ _ _ _ _ _ _ _ c.lines.invariant.underway c.in-Ok.ensures.ok in
    let replies = rw c.in-Ok-false.field-0-test at c.in-Ok-false.ensures.replies in
    begun_moved g.A.Answering.step _ _ _ _ _ _ _ _ _ u (grown_moved _ _ _ _ _ c.lines.invariant.grown c.in-Ok.ensures.ok)
    (sent_whole _ _ _ _ _ _ _ (Extends-same _ _ replies.1) c.as_bytes.ensures.value (search rules) c.end.ensures.sent.1)

pub returns-in-Ok-false-clause-carried : goal.returns-in-Ok-false-clause-carried
returns-in-Ok-false-clause-carried g c =
    let u = underway_moved g.A.Answering.step _ _ _ _ _ _ _ _ _ c.lines.invariant.underway c.in-Ok.ensures.ok in
    let replies = rw c.in-Ok-false.field-0-test at c.in-Ok-false.ensures.replies in
    carried_moved g.A.Answering.step _ _ _ _ _ _ _ _ _ _ u (grown_moved _ _ _ _ _ c.lines.invariant.grown c.in-Ok.ensures.ok)
    (sent_whole _ _ _ _ _ _ _ (Extends-same _ _ replies.1) c.as_bytes.ensures.value (search rules) c.end.ensures.sent.1) (goes_on g.A.Answering.step _ _ _ replies.2)

pub returns-in-Err-next_reply-clause-carried : goal.returns-in-Err-next_reply-clause-carried
returns-in-Err-next_reply-clause-carried g c =
    let u = underway_moved g.A.Answering.step _ _ _ _ _ _ _ _ _ c.lines.invariant.underway c.in-Ok.ensures.ok in
    carried_moved g.A.Answering.step _ _ _ _ _ _ _ _ _ _ u (grown_moved _ _ _ _ _ c.lines.invariant.grown c.in-Ok.ensures.ok)
    (sent_whole _ _ _ _ _ _ _ c.in-Err-next_reply.ensures.replies.0 c.as_bytes-in-Err-next_reply.ensures.value (search rules) c.end-in-Err-next_reply.ensures.sent.1)
    c.in-Err-next_reply.ensures.replies.2

pub returns-in-Err-next_reply-clause-begun : goal.returns-in-Err-next_reply-clause-begun
returns-in-Err-next_reply-clause-begun g c =
    let u = underway_moved g.A.Answering.step _ _ _ _ _ _ _ _ _ c.lines.invariant.underway c.in-Ok.ensures.ok in
    begun_moved g.A.Answering.step _ _ _ _ _ _ _ _ _ u (grown_moved _ _ _ _ _ c.lines.invariant.grown c.in-Ok.ensures.ok)
    (sent_whole _ _ _ _ _ _ _ c.in-Err-next_reply.ensures.replies.0 c.as_bytes-in-Err-next_reply.ensures.value (search rules) c.end-in-Err-next_reply.ensures.sent.1)

pub returns-in-Err-next_reply-clause-written : goal.returns-in-Err-next_reply-clause-written
returns-in-Err-next_reply-clause-written g c =
    let u = underway_moved g.A.Answering.step _ _ _ _ _ _ _ _ _ c.lines.invariant.underway c.in-Ok.ensures.ok in
    written_err g.A.Answering.step _ _ _ _ _ _ _ _ c.in-Err-next_reply.error _
    (λ f. underway_sent g.A.Answering.step _ _ _ _ _ _ _ _ u
    (sent_whole _ _ _ _ _ _ _ c.in-Err-next_reply.ensures.replies.0 c.as_bytes-in-Err-next_reply.ensures.value (search rules) (c.end-in-Err-next_reply.ensures.all f)))
    c.in-Err-next_reply.ensures.replies.1 (rw c.ended_by.ensures.ended at c.end-in-Err-next_reply.ensures.other)

pub returns-in-Err-clause-complete : goal.returns-in-Err-clause-complete
returns-in-Err-clause-complete g c = completes _ _ _ _ _ (λ e. absurd (cc)) (λ e. rose_since _ _ _ c.lines.invariant.write_later c.in-Err.ensures.cause.failed)

pub returns-in-Ok-false-clause-complete : goal.returns-in-Ok-false-clause-complete
returns-in-Ok-false-clause-complete g c =
    completes _ _ _ _ _ (λ e. absurd (not_read _ c.end.ensures.other e))
    (λ e. rose_since _ _ _ c.lines.invariant.write_later (rose_since _ _ _ c.in-Ok.ensures.cause.later (c.end.ensures.write e (λ f. absurd (cc)))))

pub returns-in-Err-next_reply-clause-complete : goal.returns-in-Err-next_reply-clause-complete
returns-in-Err-next_reply-clause-complete g c =
    let other = rw c.ended_by.ensures.ended at c.end-in-Err-next_reply.ensures.other in
    completes _ _ _ _ _
    (λ e. let failed : c.in-Err-next_reply.error ≡ errors.Failed = failed_read c.in-Err-next_reply.error _ other e in rose_since _ _ _ c.lines.invariant.read_later (c.in-Err-next_reply.ensures.reads.failed (cc)))
    (λ e. rose_since _ _ _ c.lines.invariant.write_later (rose_since _ _ _ c.in-Ok.ensures.cause.later (c.end-in-Err-next_reply.ensures.write e (λ f. no_write c.in-Err-next_reply.error (sym c.ended_by.ensures.ended ∙ f)))))
