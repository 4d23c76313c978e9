use Rattle.std.proofs.Common.{◌+◌}
use Rattle.oe_http.specs.declared.lines.TheConstants.{INPUT_LIMIT}
use Rattle.http_messages.specs.declared.held.TheConstants.{READ_SIZE}
use Rattle.http_messages.proofs.MessageFacts.{gives_cut, turns_request}
use Rattle.http_messages.proofs.request.take_body.Goals as goal

pub returns-in-Ok-true-clause-turns : goal.returns-in-Ok-true-clause-turns
returns-in-Ok-true-clause-turns g c =
    rw c.give.ensures.taken (
    turns_request c.args.held.now.bytes.items c.hold.new.held.bytes.items c.give.new.held.bytes.items
    c.args.held.now.taken c.hold.new.held.taken (INPUT_LIMIT + READ_SIZE) c.args.head c.args.len c.give.result
    c.requires c.in-Ok-true.ensures.balance c.in-Ok-true.ensures.more c.hold.new.held.most
    (c.in-Ok-true.ensures.whole c.in-Ok-true.field-0-test) c.give.ensures.given)

pub returns-in-Ok-false-clause-gives : goal.returns-in-Ok-false-clause-gives
returns-in-Ok-false-clause-gives g c =
    gives_cut c.args.held.now.bytes.items c.hold.new.held.bytes.items
    (g.S.Source.left c.args.link.now) (g.S.Source.left c.hold.new.link) c.args.head c.args.len
    c.requires c.in-Ok-false.ensures.kept (c.in-Ok-false.ensures.end c.in-Ok-false.field-0-test) (c.in-Ok-false.ensures.short c.in-Ok-false.field-0-test)
