use Rattle.std.proofs.Common.{◌≡◌, sym, ◌∙◌, List, subst, map, ◌++◌, []}
use Rattle.std.specs.Arc.{arc_value}
use Rattle.tree_versions.specs.Fronts.{Edition, ReachedFrom, last_of, entries_of}
use Rattle.tree_versions.proofs.publisher.Publisher.publish.Goals as goal

pub new-next-requires : goal.new-next-requires
new-next-requires g c =
    let P : List g.row.E.Denot × g.row.V.Denot → Type 0 = λ t. ReachedFrom g.V.Version.follows g.J.Naming.first t.0 t.1 in
    subst P (λ i. (sym c.copy.ensures i, c.in_ok-value.ensures c.self.inside.writer.0.0 i)) c.self.invariant.1

pub returns-clause-ok : goal.returns-clause-ok
returns-clause-ok g c =
    let E = g.row.E.Denot in
    let V = g.row.V.Denot in
    let at = c.self.inside in
    let p : c.show.new.writer.0 ≡ (last_of at.writer.0.0 (map (λ w. (w.0, arc_value w.1)) at.waiting.items), at.writer.0.1 ++ entries_of (map (λ w. (w.0, arc_value w.1)) at.waiting.items)) =
    c.in_ok-show.ensures.ok ∙ (c.new-next.ensures ∙ (λ i. (sym (c.in_ok-value.ensures at.writer.0.0) i, (c.copy.ensures ∙ c.self.invariant.0) i))) in
    let Q : Edition V E → Type 0 = λ s. c.tell-2.new.self ≡ record { value = last_of s.value s.waiting; published = s.published ++ entries_of s.waiting; waiting = [] } in
    subst Q c.self.view_is (c.tell-2.ensures.same ∙ (λ i. record { value = (p i).0; published = (p i).1; waiting = map (λ w. (w.0, arc_value w.1)) (c.clear.ensures.items i) }))
