use Rattle.std.proofs.Common.{◌≡◌, ℕ, MatchBool, sym, ap, ◌∙◌, List, subst, length, ◌+◌, ◌<◌, ◌^◌, ◌++◌, ◌∷◌, []}
use Rattle.std.specs.Arc.{arc_value}
use Rattle.tree_versions.specs.Fronts.{Edition, last_of}
use Rattle.tree_versions.proofs.Chains.{offered, roomy}
use Rattle.tree_versions.proofs.publisher.Publisher.offer.Goals as goal

pub invariant_of-self-2 : goal.invariant_of-self-2
invariant_of-self-2 g c =
    let E = g.row.E.Denot in
    let V = g.row.V.Denot in
    let at = c.self.inside in
    let added : c.add.new.self ≡ at.all ++ c.args.entry ∷ [] = subst (λ b. MatchBool b (c.add.new.self ≡ c.copy-all.result ++ c.args.entry ∷ []) (c.add.new.self ≡ c.copy-all.result)) c.if-not-add.false c.add.ensures ∙ ap (λ (xs : List E). xs ++ c.args.entry ∷ []) c.copy-all.ensures in
    let P : Edition V E → Type 0 = λ s. g.V.Version.follows (last_of s.value s.waiting) c.args.entry (arc_value c.args.value) in
    let Q : Edition V E → Type 0 = λ s. g.J.Naming.base + length s.published + length s.waiting + 1 < 2 ^ 64 in
    let both = offered arc_value g.V.Version.follows g.J.Naming.first at.writer.0.1 at.all c.add.new.self at.writer.0.0 at.waiting.items c.push_reserved.new.self.items c.args.entry c.args.value
    c.self.invariant.0 c.self.invariant.1 (subst P (sym c.self.view_is) c.requires.follows) added (c.push_reserved.ensures.items ∙ ap (λ xs. xs ++ (c.args.entry, c.args.value) ∷ []) c.reserve.ensures.items) in
    let R : ℕ → Type 0 = λ b. b + length c.add.new.self < 2 ^ 64 in
    let room = roomy g.J.Naming.base at.writer.0.1 at.all c.add.new.self c.args.entry _ c.self.invariant.0 added (subst Q (sym c.self.view_is) c.requires.room) in
    (both.0, both.1, c.self.invariant.2, subst R (sym c.self.invariant.2) room)
