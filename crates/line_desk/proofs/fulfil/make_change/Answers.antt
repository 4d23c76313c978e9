use Rattle.std.proofs.Common.{◌++◌, [], ap, ◌∙◌, refl}
use Rattle.std.specs.String.{string_bytes}
use Rattle.wire_replies.specs.Replies.{reply_text}
use Rattle.wire_replies.specs.declared.reply.Reply.{Reply}
use Rattle.line_desk.specs.Desk.{change_reply}
use Rattle.line_desk.proofs.ChangeFacts.{changed}
use Rattle.line_desk.proofs.QueryFacts.{on_err, on_ok}
use Rattle.line_desk.proofs.fulfil.make_change.Goals as goal

pub returns-clause-ok : goal.returns-clause-ok
returns-clause-ok g c =
    on_ok c.append_reply.result
    (λ t. changed g.K.Keeper.IsSteady g.K.Keeper.faults c.args.clerk.now c.apply-answer.new.self c.args.change.now c.apply-answer.result _ _ c.apply-answer.ensures.answer c.apply-answer.ensures.cause
    (t ∙ ap (λ (x : Reply). string_bytes c.args.text.now ++ reply_text x) c.reply_of.ensures)) c.append_reply.ensures.ok

pub returns-clause-made : goal.returns-clause-made
returns-clause-made g c =
    let text = reply_text (change_reply c.apply-answer.result) in
    on_err c.append_reply.result
    (text, changed g.K.Keeper.IsSteady g.K.Keeper.faults c.args.clerk.now c.apply-answer.new.self c.args.change.now c.apply-answer.result [] text c.apply-answer.ensures.answer c.apply-answer.ensures.cause refl)
