use Rattle.http_messages.specs.declared.request.Incoming.TheVariants as incoming
use Rattle.http_messages.specs.declared.status.TheConstants.{HEAD_TOO_LARGE}
use Rattle.http_messages.specs.Messages.{unread_of}
use Rattle.http_messages.proofs.MessageFacts.{gives_on, gives_large}
use Rattle.http_messages.proofs.request.next_request.Goals as goal

pub returns-in-TooLarge-clause-gives : goal.returns-in-TooLarge-clause-gives
returns-in-TooLarge-clause-gives g c =
    gives_on (unread_of c.args.held.now (g.S.Source.left c.args.link.now)) (unread_of c.next_head.new.held (g.S.Source.left c.next_head.new.link))
    (unread_of c.next_head.new.held (g.S.Source.left c.next_head.new.link)) (incoming.Refused HEAD_TOO_LARGE)
    c.in-TooLarge.ensures.kept (gives_large c.next_head.new.held.bytes.items (g.S.Source.left c.next_head.new.link) c.in-TooLarge.ensures.decides)
