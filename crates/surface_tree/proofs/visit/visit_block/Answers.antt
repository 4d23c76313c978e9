use Rattle.std.proofs.Common.{map, ap, ◌∙◌, slice_index_or, ◌++◌, subst}
use Rattle.surface_tree.specs.Parts.{item_of}
use Rattle.surface_tree.proofs.Picks.{some_item, map_twice}
use Rattle.surface_tree.proofs.visit.visit_block.Goals as goal

pub returns-clause-seen : goal.returns-clause-seen
returns-clause-seen g c =
    λ u xs s.
    let d = some_item c.args.entries.now c.requires.some in
    let a = c.hand_out.ensures.seen d u xs s in
    subst (λ zs. g.W.Visitor.seen u c.hand_out.new.visitor (xs ++ zs)) (map_twice item_of (λ j. slice_index_or c.args.entries.now j d) _ ∙ ap (map item_of) (c.pick-count.ensures.picked d)) a
