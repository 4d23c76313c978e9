use Rattle.std.proofs.Common.{◌≡◌, ◌+◌, ◌-◌, ◌++◌, take, length, sym, ◌∙◌, ap, subst, rules}
use Rattle.std.specs.Str.{IsUtf8}
use Rattle.std.proofs.lemmas.Str.{IsUtf8-append}
use Rattle.std.proofs.lemmas.Slice.{take-put_mid}
use borrow.Rule.Slice.PartMut.{put_mid}
use Rattle.wire_replies.proofs.page.Page.put.Goals as goal

pub invariant_of-self : goal.invariant_of-self
invariant_of-self c =
    let len = c.self.inside.len in
    let part = c.args.part.now in
    let is : c.copy_from_slice.new.self ≡ part = c.copy_from_slice.ensures.after ∙ c.as_bytes.ensures.value in
    let e : take (len + length part) (put_mid len (len + length part - len) c.self.inside.bytes c.copy_from_slice.new.self) ≡ take len c.self.inside.bytes ++ part =
    take-put_mid len _ c.self.inside.bytes c.copy_from_slice.new.self _ (ap (λ t. len + length t) (sym is)) (search rules) ∙ ap (λ t. take len c.self.inside.bytes ++ t) is in
    (search rules, subst IsUtf8 (sym e) (IsUtf8-append _ part c.self.invariant.1 c.utf8.part))
