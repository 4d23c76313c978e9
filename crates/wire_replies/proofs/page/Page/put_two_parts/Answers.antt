use Rattle.std.proofs.Common.{◌≡◌, ◌+◌, ◌-◌, ◌++◌, take, drop, length, refl, sym, ◌∙◌, ap, subst, rules, arith, length-drop, take_all}
use Rattle.std.specs.Str.{IsUtf8}
use Rattle.std.proofs.lemmas.Str.{IsUtf8-append}
use borrow.Rule.Slice.PartMut.{put_mid}
use Rattle.wire_replies.proofs.PageFacts.{two_parts_behind}
use Rattle.wire_replies.proofs.page.Page.put_two_parts.Goals as goal

pub invariant_of-self : goal.invariant_of-self
invariant_of-self c =
    let at = c.self.inside.len in
    let text = c.args.part.now in
    let end = at + length text in
    let m = length text - 4 in
    let bytes = c.as_bytes-2.result.now in
    let first : c.copy_from_slice.new.self ≡ take 4 text = c.copy_from_slice.ensures.after ∙ c.four_bytes-first.ensures ∙ ap (take 4) c.as_bytes.ensures.value in
    let last : c.copy_from_slice-2.new.self ≡ drop m text = c.copy_from_slice-2.ensures.after ∙ c.four_bytes-last.ensures ∙ take_all 4 (drop m bytes) (omega (arith, length-drop m bytes, ap length c.as_bytes-2.ensures.value)) ∙ ap (drop m) c.as_bytes-2.ensures.value in
    let e : take end (put_mid (end - 4) (end - (end - 4)) (put_mid at (at + 4 - at) c.self.inside.bytes c.copy_from_slice.new.self) c.copy_from_slice-2.new.self) ≡ take at c.self.inside.bytes ++ text =
    two_parts_behind at end _ _ c.self.inside.bytes text _ _ (search rules) c.requires.least c.requires.most refl first last in
    (search rules, subst IsUtf8 (sym e) (IsUtf8-append _ text c.self.invariant.1 c.utf8.part))

pub returns-clause-put : goal.returns-clause-put
returns-clause-put c =
    let at = c.self.inside.len in
    let text = c.args.part.now in
    let end = at + length text in
    let m = length text - 4 in
    let bytes = c.as_bytes-2.result.now in
    let first : c.copy_from_slice.new.self ≡ take 4 text = c.copy_from_slice.ensures.after ∙ c.four_bytes-first.ensures ∙ ap (take 4) c.as_bytes.ensures.value in
    let last : c.copy_from_slice-2.new.self ≡ drop m text = c.copy_from_slice-2.ensures.after ∙ c.four_bytes-last.ensures ∙ take_all 4 (drop m bytes) (omega (arith, length-drop m bytes, ap length c.as_bytes-2.ensures.value)) ∙ ap (drop m) c.as_bytes-2.ensures.value in
    let e : take end (put_mid (end - 4) (end - (end - 4)) (put_mid at (at + 4 - at) c.self.inside.bytes c.copy_from_slice.new.self) c.copy_from_slice-2.new.self) ≡ take at c.self.inside.bytes ++ text =
    two_parts_behind at end _ _ c.self.inside.bytes text _ _ (search rules) c.requires.least c.requires.most refl first last in
    e ∙ ap (λ t. t ++ text) c.self.view_is
