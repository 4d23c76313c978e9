use Rattle.std.proofs.Common.{◌++◌, sym, ◌∙◌, ap}
use Rattle.wire_replies.proofs.PageFacts.{one_digit, two_digits}
use Rattle.wire_replies.proofs.page.Page.put_first.Goals as goal

pub returns-then-number-lt10-clause-put : goal.returns-then-number-lt10-clause-put
returns-then-number-lt10-clause-put c = c.put_byte.ensures.put ∙ ap (λ t. c.args.self.now ++ t) (sym (one_digit c.args.number c.if-number-lt10.true))

pub returns-else-number-lt10-clause-put : goal.returns-else-number-lt10-clause-put
returns-else-number-lt10-clause-put c = c.put_pair.ensures.put ∙ ap (λ t. c.args.self.now ++ t) (sym (two_digits c.args.number c.if-number-lt10.false c.requires.short))
