use Rattle.http_messages.proofs.MessageFacts.{gives_large, gives_malformed}
use Rattle.http_messages.proofs.request.held_request.Goals as goal

pub returns-in-TooLarge-clause-gives : goal.returns-in-TooLarge-clause-gives
returns-in-TooLarge-clause-gives c = λ left. rw c.look.ensures.bytes
    (gives_large c.args.held.now.bytes.items left (rw c.look.ensures.bytes at c.in-TooLarge.ensures.decides))

pub returns-in-Malformed-clause-gives : goal.returns-in-Malformed-clause-gives
returns-in-Malformed-clause-gives c = λ left. rw c.look.ensures.bytes
    (gives_malformed c.args.held.now.bytes.items left (rw c.look.ensures.bytes at c.in-Malformed.ensures.decides))
