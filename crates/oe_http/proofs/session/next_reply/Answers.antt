use Rattle.std.proofs.Common.{arith}
use Rattle.std.proofs.lemmas.Grind.{common_steps}
use Rattle.oe_http.proofs.WaitingFacts.{goes_long}
use Rattle.oe_http.proofs.session.next_reply.Goals as goal

pub returns-in_err-answer_long-in-TooLong-clause-replies : goal.returns-in_err-answer_long-in-TooLong-clause-replies
returns-in_err-answer_long-in-TooLong-clause-replies g c =
    let long = c.in_err-answer_long-in-TooLong.ensures.made in
    let goes = goes_long g.A.Answering.step _ _ _ _ _ long.0 (rw c.in-TooLong.is at c.in_ok-next_line.ensures.line) long.1 in
    grind (arith, common_steps, goes)
