use Rattle.std.proofs.Common.{arith, refl}
use Rattle.http_session.proofs.CarryFacts.{runs_goes, runs_out, stays}
use Rattle.http_session.proofs.UnderwayFacts.{underway_goes, underway_sent, underway_stops}
use Rattle.oe_http.proofs.EndingFacts.{completes, rose_since}
use Rattle.oe_http.proofs.SessionFacts.{fell_more}
use Rattle.http_session.proofs.link.session.Goals as goal

pub messages-preserved : goal.messages-preserved
messages-preserved g c =
    let u = underway_sent g.A.Replying.step _ _ _ _ _ _ _ _ _ c.messages.invariant.underway c.in-Ok.ensures.sent in
    record {
      underway = rw c.respond.ensures.left (underway_goes g.A.Replying.step _ _ _ _ _ _ _ _ _ _ _ u (c.in-None.ensures.goes refl _ _ c.in-Ok.ensures.gives));
      carried = rw c.respond.ensures.left (runs_goes g.A.Replying.step _ _ _ _ _ _ _ _ _ _ c.messages.invariant.carried (c.in-None.ensures.goes refl _ _ c.in-Ok.ensures.gives));
      took = rw c.respond.ensures.left (fell_more _ _ _ _ _ c.messages.invariant.took c.receive.ensures.more c.receive.ensures.took);
      read_later = omega (arith, c.respond.ensures.read_faults, c.receive.ensures.later, c.messages.invariant.read_later);
      write_later = grind (arith, c.respond.ensures.later, c.receive.ensures.cause, c.messages.invariant.write_later);
    }

pub returns-in-Some-clause-ends : goal.returns-in-Some-clause-ends
returns-in-Some-clause-ends g c =
    let u = underway_sent g.A.Replying.step _ _ _ _ _ _ _ _ _ c.messages.invariant.underway c.in-Ok.ensures.sent in
    underway_stops g.A.Replying.step _ _ _ _ _ _ _ _ _ _ u (c.in-Some.ensures.ends _ _ c.in-Ok.ensures.gives)

pub returns-in-Err-clause-ends : goal.returns-in-Err-clause-ends
returns-in-Err-clause-ends g c = c.messages.invariant.underway.cut c.args.desk.now _ c.in-Err.ensures.err

pub returns-in-Some-clause-carried : goal.returns-in-Some-clause-carried
returns-in-Some-clause-carried g c = runs_out g.A.Replying.step _ _ _ _ _ c.messages.invariant.carried (c.in-Some.ensures.further _ _ c.in-Ok.ensures.gives)

pub returns-in-Err-clause-carried : goal.returns-in-Err-clause-carried
returns-in-Err-clause-carried g c = runs_out g.A.Replying.step _ _ _ _ _ c.messages.invariant.carried (stays g.A.Replying.step _ _)

pub returns-in-Some-clause-complete : goal.returns-in-Some-clause-complete
returns-in-Some-clause-complete g c =
    completes _ _ _ _ _ (λ e. rw c.respond.ensures.read_faults (rose_since _ _ _ c.messages.invariant.read_later (c.in-Ok.ensures.fault (c.in-Some.ensures.read e))))
    (λ e. rose_since _ _ _ c.messages.invariant.write_later (rose_since _ _ _ c.in-Ok.ensures.cause.later (c.in-Some.ensures.write e)))

pub returns-in-Err-clause-complete : goal.returns-in-Err-clause-complete
returns-in-Err-clause-complete g c = completes _ _ _ _ _ (λ e. absurd (cc)) (λ e. rose_since _ _ _ c.messages.invariant.write_later c.in-Err.ensures.cause.failed)
