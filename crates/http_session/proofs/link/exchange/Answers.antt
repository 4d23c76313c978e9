use Rattle.std.proofs.Common.{inr, refl}
use Rattle.http_session.proofs.CarryFacts.{takes}
use Rattle.http_session.proofs.SessionFacts.{goes_on, stops_close, stops_write, stops_memory}
use Rattle.http_session.proofs.link.exchange.Goals as goal

pub returns-then-close-clause-ends : goal.returns-then-close-clause-ends
returns-then-close-clause-ends g c = λ x y o.
    let ok = c.in-Ok.ensures.ok in
    stops_close g.A.Replying.step _ _ _ x y _ _ _ _ _ _ _ ok.0 c.if-close.true o ok.1 ok.2 c.finish.ensures.finishes

pub returns-else-close-clause-goes : goal.returns-else-close-clause-goes
returns-else-close-clause-goes g c = λ _ x y o.
    let ok = c.in-Ok.ensures.ok in
    goes_on g.A.Replying.step _ _ x y _ _ _ _ _ _ ok.0 c.if-close.false o ok.1 ok.2

pub returns-in-Err-WriteFault-clause-ends : goal.returns-in-Err-WriteFault-clause-ends
returns-in-Err-WriteFault-clause-ends g c = λ x y o.
    let fault = (rw c.in-Err-WriteFault.field-0-is at c.in-Err-WriteFault.ensures.fault) refl in
    stops_write g.A.Replying.step _ _ x y _ _ _ _ _ fault.0 fault.2.0 o fault.1 fault.2.1

pub returns-in-Err-NoMemory-clause-ends : goal.returns-in-Err-NoMemory-clause-ends
returns-in-Err-NoMemory-clause-ends g c = λ x y o.
    let memory = (rw c.in-Err-NoMemory.field-0-is at c.in-Err-NoMemory.ensures.memory) refl in
    stops_memory g.A.Replying.step _ c.args.desk.now c.answer_one.new.desk x _ _ _ _ _ memory c.end_without_memory.ensures.ends

pub returns-then-close-clause-further : goal.returns-then-close-clause-further
returns-then-close-clause-further g c = λ x y o.
    let ok = c.in-Ok.ensures.ok in
    takes g.A.Replying.step _ _ x y _ _ o (inr (ok.0, ok.1))

pub returns-in-Err-WriteFault-clause-further : goal.returns-in-Err-WriteFault-clause-further
returns-in-Err-WriteFault-clause-further g c = λ x y o. takes g.A.Replying.step _ _ x y _ _ o c.in-Err-WriteFault.ensures.made

pub returns-in-Err-NoMemory-clause-further : goal.returns-in-Err-NoMemory-clause-further
returns-in-Err-NoMemory-clause-further g c = λ x y o. takes g.A.Replying.step _ _ x y _ _ o c.in-Err-NoMemory.ensures.made
