use Rattle.std.proofs.Common.{◌≡◌, ◌+◌, ◌≤◌, ◌<◌, map, take, slice_index_or, length}
use Rattle.std.specs.List.{filter, All}
use Rattle.grid_exact.specs.Area.{has_point}
use Rattle.surface_tree.specs.declared.entry.Entry.{Entry}
use Rattle.outline_boxes.specs.Bounds.{box_of}
use Rattle.surface_tree.proofs.visit.pick.Given as goal

abbrev pub invariant-loop-i : goal.invariant-loop-i
invariant-loop-i g l = record {
  long : length l.picks ≡ 256;
  few : l.count ≤ l.i;
  within : All (λ j. j < l.i) (take l.count l.picks);
  picked : (d : Entry g.row.T.Denot) → map (λ j. slice_index_or l.entries j d) (take l.count l.picks) ≡ filter (λ e. has_point (box_of e.bounds) l.x) (take l.i l.entries);
  cost : l.steps ≡ l.initial.steps + l.i;
}
