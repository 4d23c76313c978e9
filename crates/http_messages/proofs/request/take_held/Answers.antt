use Rattle.std.proofs.Common.{rules}
use Rattle.http_messages.proofs.HeldFacts.{keeps_same}
use Rattle.http_messages.proofs.MessageFacts.{gives_request, holds_said}
use Rattle.http_messages.proofs.request.take_held.Goals as goal

pub returns-else-len-spans-clause-gives : goal.returns-else-len-spans-clause-gives
returns-else-len-spans-clause-gives c = λ left.
    let bytes = c.args.held.now.bytes.items in
    let says = rw c.deref.ensures.value at c.in-Head.ensures.says in
    gives_request bytes bytes c.give.new.held.bytes.items left left c.in-Head.head c.args.spans.len c.give.result
    (holds_said bytes c.args.headers.now c.args.spans c.in-Head.head says c.requires.whole)
    (keeps_same _) (search rules) c.give.ensures.given
