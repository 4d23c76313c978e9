use Rattle.std.proofs.Common.{◌++◌, List, map, take, slice_index_or}
use Rattle.surface_tree.specs.declared.entry.Entry.{Entry}
use Rattle.surface_tree.specs.Parts.{item_of}
use Rattle.surface_tree.proofs.visit.hand_out.Given as goal

abbrev pub invariant-loop-pick : goal.invariant-loop-pick
invariant-loop-pick g l = (d : Entry g.row.T.Denot) (u : g.row.W.Denot) (xs : List g.row.T.Denot) → g.W.Visitor.seen u l.initial.visitor xs → g.W.Visitor.seen u l.visitor (xs ++ map (λ j. item_of (slice_index_or l.entries j d)) (take l.pick-index l.picks))
