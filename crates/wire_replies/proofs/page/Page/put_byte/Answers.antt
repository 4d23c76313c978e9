use Rattle.std.proofs.Common.{sym, subst, rules}
use Rattle.std.specs.Str.{IsUtf8}
use Rattle.std.proofs.lemmas.Str.{IsUtf8-append}
use Rattle.std.proofs.lemmas.List.{take_more_set}
use Rattle.wire_replies.proofs.PageFacts.{ascii_byte}
use Rattle.wire_replies.proofs.page.Page.put_byte.Goals as goal

pub invariant_of-self : goal.invariant_of-self
invariant_of-self c =
    (search rules, subst IsUtf8 (sym (take_more_set c.self.inside.bytes c.self.inside.len c.args.byte (search rules))) (IsUtf8-append _ _ c.self.invariant.1 (ascii_byte c.args.byte c.requires.ascii)))
