use Rattle.std.proofs.Common.{◌++◌, ◌/◌, ◌%◌, sym, ◌∙◌, ap, arith, append_assoc}
use Rattle.std.specs.Fmt.{decimal}
use Rattle.wire_replies.specs.Pages.{pair_text}
use Rattle.wire_replies.proofs.PageFacts.{more_digits}
use Rattle.wire_replies.proofs.page.Page.put_hundreds.Goals as goal

pub returns-clause-put : goal.returns-clause-put
returns-clause-put c =
    let n = c.args.number in
    c.put_pair.ensures.put ∙ ap (λ t. t ++ pair_text (n % 100)) c.put_first.ensures.put ∙ append_assoc c.args.self.now (decimal (n / 100)) (pair_text (n % 100))
    ∙ ap (λ t. c.args.self.now ++ t) (sym (more_digits n c.requires.least (omega (arith, c.requires.short))))
