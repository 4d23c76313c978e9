use Rattle.std.proofs.Common.{inr, refl, None}
use Rattle.http_messages.specs.declared.routes.Routed.TheVariants as routed
use Rattle.http_session.specs.Statuses.{status_of}
use Rattle.http_session.proofs.FrontFacts.{on_err}
use Rattle.http_session.proofs.front.RoutedReplying.reply.Goals as goal

pub returns-in_err-answer_record-in-Record-clause-made : goal.returns-in_err-answer_record-in-Record-clause-made
returns-in_err-answer_record-in-Record-clause-made g c =
    let made = c.in_err-answer_record-in-Record.ensures.made in
    on_err c.from_residual.result
    (inr (record { status = status_of made.0; allow = None; body = made.0 }, (routed.Record c.in-Record.line, c.in-Record.ensures, (rw c.as_slice.ensures.bytes at made.1, refl, refl))))
