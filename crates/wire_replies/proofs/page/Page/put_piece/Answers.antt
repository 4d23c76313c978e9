use Rattle.std.proofs.Common.{◌≡◌, ◌+◌, ◌-◌, ◌++◌, take, sym, ◌∙◌, ap, subst, rules}
use Rattle.std.specs.Str.{IsUtf8}
use Rattle.std.proofs.lemmas.Str.{IsUtf8-append}
use borrow.Rule.Slice.PartMut.{put_mid}
use Rattle.wire_replies.proofs.PageFacts.{put_behind, ascii_text}
use Rattle.wire_replies.proofs.page.Page.put_piece.Goals as goal

pub invariant_of-self : goal.invariant_of-self
invariant_of-self c =
    let len = c.self.inside.len in
    let n = c.args.len in
    let e : take (len + n) (put_mid len (len + 8 - len) c.self.inside.bytes c.copy_from_slice.new.self) ≡ take len c.self.inside.bytes ++ take n c.args.word =
    put_behind len _ n c.self.inside.bytes c.copy_from_slice.new.self (search rules) (search rules) ∙ ap (λ t. take len c.self.inside.bytes ++ take n t) c.copy_from_slice.ensures.after in
    (search rules, subst IsUtf8 (sym e) (IsUtf8-append _ _ c.self.invariant.1 (ascii_text _ c.requires.text)))

pub returns-clause-put : goal.returns-clause-put
returns-clause-put c =
    let len = c.self.inside.len in
    let n = c.args.len in
    let e : take (len + n) (put_mid len (len + 8 - len) c.self.inside.bytes c.copy_from_slice.new.self) ≡ take len c.self.inside.bytes ++ take n c.args.word =
    put_behind len _ n c.self.inside.bytes c.copy_from_slice.new.self (search rules) (search rules) ∙ ap (λ t. take len c.self.inside.bytes ++ take n t) c.copy_from_slice.ensures.after in
    e ∙ ap (λ t. t ++ take n c.args.word) c.self.view_is
